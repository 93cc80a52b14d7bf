pub mod Crossing
mod Found
mod Whole
