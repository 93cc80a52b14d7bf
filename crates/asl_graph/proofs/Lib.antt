pub mod Behind
pub mod Many
