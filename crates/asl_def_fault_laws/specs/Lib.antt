pub mod Parts
pub mod Order
pub mod Faults
pub mod Kinds
pub mod Values
pub mod Listed
pub mod Sentences
pub mod Laws
