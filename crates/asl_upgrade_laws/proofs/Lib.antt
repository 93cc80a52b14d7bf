pub mod Clean
pub mod Effects
pub mod Runs
pub mod Sound
pub mod Reading
