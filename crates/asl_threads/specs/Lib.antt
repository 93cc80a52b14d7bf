pub mod Runs
pub mod Closing
pub mod Answer
pub mod Lines
pub mod Workers
pub mod Turns
pub mod Laws
