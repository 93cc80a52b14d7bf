pub mod Branches
pub mod Trees
pub mod Changes
pub mod Turns
pub mod Bare
pub mod Earliest
pub mod Orders
pub mod private
