-- Words that only proofs need.
pub mod Marks
pub mod Links
pub mod Places
pub mod Loops
