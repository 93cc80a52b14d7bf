-- Words that only proofs need.
pub mod Falls
pub mod Taking
pub mod EqualLaws
