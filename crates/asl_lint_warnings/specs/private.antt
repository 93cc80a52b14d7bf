pub mod Growths
pub mod Marks
pub mod Parts
pub mod Places
pub mod Spots
pub mod Trails
