pub mod Shown
pub mod Changes
