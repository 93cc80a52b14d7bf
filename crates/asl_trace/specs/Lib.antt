pub mod Deciding
pub mod Stopped
pub mod Steps
pub mod Views
pub mod private
