pub mod Counting
pub mod Nearby
