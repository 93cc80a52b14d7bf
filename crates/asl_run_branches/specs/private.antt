-- Words that only proofs need.
pub mod Resting
pub mod Links
pub mod Walking
