-- Words that only proofs need.
pub mod Ends
