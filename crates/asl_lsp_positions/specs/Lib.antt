pub mod Positions
pub mod Lines
pub mod private
