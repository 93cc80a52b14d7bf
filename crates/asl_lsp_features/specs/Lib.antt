pub mod Structures
pub mod Formatting
pub mod Spots
pub mod Locating
pub mod Renaming
