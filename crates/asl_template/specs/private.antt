-- Words that only proofs need.
pub mod View
pub mod Falls
pub mod Broken
pub mod SameLaws
