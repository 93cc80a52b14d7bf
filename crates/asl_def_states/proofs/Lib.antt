pub mod Canonical
pub mod Ruling
pub mod Begins
pub mod Items
pub mod Nexts
pub mod Alike
