pub mod Reaching
pub mod Seeing
pub mod Remarking
pub mod Numbered
pub mod Searching
pub mod Known
