pub mod Answering
pub mod Counting
pub mod Forms
pub mod Roots
mod Machines
pub mod Walking
pub mod Naming
pub mod Objects
pub mod Doubles
