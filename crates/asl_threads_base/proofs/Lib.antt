pub mod Values
pub mod Paths
pub mod Members
pub mod Parts
pub mod Choices
pub mod States
pub mod Machines
pub mod Cases
