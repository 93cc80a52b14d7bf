pub mod Counting
pub mod Units
pub mod Lining
