pub mod Skipping
pub mod Behind
pub mod Opening
pub mod Standing
pub mod Making
pub mod Places
pub mod Counting
pub mod Onward
