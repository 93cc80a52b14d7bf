pub mod Names
pub mod Picked
pub mod Ruled
pub mod Decided
pub mod Shows
pub mod Apart
pub mod Within
pub mod Taken
mod Fitted
mod Stamped
mod Alike
pub mod Exact
