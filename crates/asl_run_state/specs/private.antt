-- Words that only proofs need.
pub mod Sound
pub mod Telling
