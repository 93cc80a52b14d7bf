pub mod Marking
pub mod Unbroken
pub mod Starting
pub mod Advances
pub mod Commanding
pub mod OneScript
pub mod Plain
