pub mod Paths
pub mod Payload
pub mod Reason
pub mod Delay
pub mod Gives
