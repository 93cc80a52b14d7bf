pub mod World
pub mod Refusals
pub mod Equal
pub mod Lines
pub mod Picking
pub mod Checkpoints
pub mod Bare
pub mod private
