-- Words that only proofs need.
pub mod Founds
pub mod Writing
pub mod Issues
