-- Words that only proofs need.
pub mod Lists
pub mod Places
pub mod NumberParts
