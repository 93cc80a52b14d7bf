pub mod Fits
pub mod Heads
pub mod Catching
pub mod Names
pub mod Slots
pub mod Owning
pub mod Alike
pub mod Exact
