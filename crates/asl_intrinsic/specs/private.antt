-- Words that only proofs need.
pub mod Code
pub mod View
pub mod Falls
pub mod Steps
pub mod Leads
pub mod Lists
pub mod Keeps
pub mod Hears
