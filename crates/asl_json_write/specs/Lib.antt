pub mod Buffers
pub mod Pointers
pub mod private
