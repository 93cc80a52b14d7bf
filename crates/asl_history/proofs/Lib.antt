pub mod Numerals
pub mod Steps
pub mod Links
pub mod Pieces
