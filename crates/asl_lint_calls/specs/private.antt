-- Words that only proofs need.
pub mod View
pub mod Views
pub mod Looks
