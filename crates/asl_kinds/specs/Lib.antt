pub mod Members
pub mod Forks
pub mod Table
pub mod Entering
pub mod private
