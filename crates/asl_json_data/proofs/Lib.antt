pub mod Amounts
pub mod Figures
pub mod Numerals
pub mod Plainly
