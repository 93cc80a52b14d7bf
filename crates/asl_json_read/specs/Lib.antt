pub mod FaultText
pub mod Reading
pub mod Wrong
