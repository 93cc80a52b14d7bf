-- Words that only proofs need.
pub mod Code
pub mod Falls
pub mod Hears
pub mod Leads
pub mod Parts
pub mod Steps
pub mod View
pub mod Words
