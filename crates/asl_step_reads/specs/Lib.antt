pub mod Reading
pub mod Mentions
pub mod Laws
pub mod Steps
