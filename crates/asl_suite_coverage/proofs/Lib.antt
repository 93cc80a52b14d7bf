pub mod Covering
pub mod Counting
mod Driving
mod Lines
