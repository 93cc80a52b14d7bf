pub mod Telling
pub mod Going
pub mod Wholes
mod Machines
pub mod Names
pub mod Leasts
