pub mod Stamp
pub mod StampText
pub mod Timestamp
pub mod Fields
pub mod Delay
pub mod private
