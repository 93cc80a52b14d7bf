pub mod Faulting
pub mod Turns
