-- Words that only proofs need.
pub mod Table
pub mod Built
pub mod EqualLaws
