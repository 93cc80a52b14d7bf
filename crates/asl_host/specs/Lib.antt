pub mod Limits
pub mod Outcomes
pub mod Typing
pub mod Reading
pub mod Naming
pub mod Writing
