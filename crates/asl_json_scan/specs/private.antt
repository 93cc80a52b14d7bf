-- Words that only proofs need.
pub mod Chars
pub mod Leads
pub mod Machine
