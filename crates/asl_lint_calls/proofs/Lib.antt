pub mod Ends
pub mod Dividing
pub mod Counting
pub mod Unfitting
pub mod Meeting
pub mod Gathering
pub mod Spelling
pub mod Sounding
