pub mod Until
pub mod Reading
pub mod Changing
pub mod Stepping
pub mod Runs
