pub mod Accepting
pub mod Drives
pub mod OneRun
pub mod Growing
pub mod Going
pub mod Obstacles
pub mod Leading
