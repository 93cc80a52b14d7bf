pub mod Stages
pub mod Kinds
pub mod Laws
pub mod Lines
