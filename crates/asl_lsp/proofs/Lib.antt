pub mod Opened
pub mod Answering
pub mod Isolation
