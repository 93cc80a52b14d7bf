pub mod Seen
pub mod Views
pub mod Columns
pub mod Handling
pub mod Outcome
pub mod Lines
