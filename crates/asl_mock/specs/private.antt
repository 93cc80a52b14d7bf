-- Words that only proofs need.
pub mod Apart
pub mod Shared
pub mod EqualLaws
