pub mod Taking
pub mod NamesOnce
pub mod Telling
