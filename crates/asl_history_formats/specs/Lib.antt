pub mod Keys
pub mod JsonLines
pub mod Details
pub mod Resources
pub mod Tasks
pub mod Aws
