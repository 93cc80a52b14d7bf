pub mod Halves
pub mod Cutting
pub mod Meaning
pub mod Spelling
pub mod Writing
pub mod Limiting
pub mod CanonicalSound
pub mod Printing
