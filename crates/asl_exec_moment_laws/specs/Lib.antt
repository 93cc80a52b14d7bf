pub mod Orders
pub mod Moments
pub mod Laws
