-- Words that only proofs need.
pub mod Spots
pub mod Firsts
