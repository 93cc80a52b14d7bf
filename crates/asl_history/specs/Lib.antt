pub mod Places
pub mod Kinds
pub mod Events
pub mod Logs
pub mod Lines
pub mod Sinks
pub mod Sending
