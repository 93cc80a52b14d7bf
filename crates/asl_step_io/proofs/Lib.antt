pub mod Giving
pub mod Texts
