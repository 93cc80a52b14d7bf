pub mod Kinds
pub mod Pointing
pub mod Lines
pub mod Judged
pub mod Linted
