pub mod Behind
pub mod Equalities
