pub mod Candidates
pub mod Alike
pub mod Tasks
pub mod View
pub mod Laws
