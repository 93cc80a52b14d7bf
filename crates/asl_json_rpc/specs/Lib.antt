pub mod Calls
pub mod Printing
