pub mod Buffers
pub mod Parts
pub mod Pointing
pub mod Quoting
pub mod Rooms
pub mod Round
