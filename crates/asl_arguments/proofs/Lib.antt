pub mod Giving
pub mod Rules
