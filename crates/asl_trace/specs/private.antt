-- Words that only proofs need.
pub mod Known
pub mod Walked
