pub mod Names
pub mod Decisions
pub mod Seen
pub mod Laws
