pub mod Names
pub mod Filling
pub mod Gives
pub mod Faults
pub mod Places
pub mod Answer
pub mod private
