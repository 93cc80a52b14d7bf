-- Words that only proofs need.
pub mod Marks
pub mod Trails
