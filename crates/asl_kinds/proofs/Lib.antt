mod Branching
mod Choosing
mod Counting
mod Waiting
pub mod Mapping
