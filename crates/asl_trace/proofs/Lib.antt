pub mod AnyTable
pub mod Catchers
pub mod Ruling
pub mod Walking
pub mod Happening
pub mod Replying
