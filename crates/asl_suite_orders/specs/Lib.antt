pub mod Counting
pub mod Judging
pub mod Testing
pub mod Suites
pub mod Keeping
