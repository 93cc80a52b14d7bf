pub mod Cases
pub mod Suites
pub mod Lines
