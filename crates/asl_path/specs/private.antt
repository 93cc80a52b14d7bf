-- Words that only proofs need.
pub mod Steps
pub mod Leads
pub mod Opened
