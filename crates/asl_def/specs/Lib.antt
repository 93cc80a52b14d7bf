pub mod Machines
pub mod Whole
pub mod Answer
pub mod Own
pub mod Upgraded
pub mod private
