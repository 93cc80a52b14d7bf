pub mod Replays
pub mod Dues
pub mod Least
pub mod Equalities
pub mod OneList
pub mod Served
pub mod Crossing
