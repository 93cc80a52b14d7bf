pub mod Alike
pub mod Giving
pub mod Failing
pub mod Ends
pub mod Inputs
