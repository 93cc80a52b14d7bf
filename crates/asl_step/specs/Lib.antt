pub mod Records
pub mod Seen
pub mod Context
pub mod Rows
pub mod Bounds
pub mod Equal
pub mod private
