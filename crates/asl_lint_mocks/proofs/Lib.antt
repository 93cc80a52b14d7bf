mod Each
mod Overlapping
pub mod Naming
mod Answering
mod Bare
mod Losing
