-- Words that only proofs need.
pub mod Code
pub mod Falls
pub mod Lending
pub mod SameLaws
