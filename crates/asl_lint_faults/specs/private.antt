-- Words that only proofs need.
pub mod Parts
pub mod Names
