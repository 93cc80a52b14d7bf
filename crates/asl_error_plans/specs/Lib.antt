pub mod Injected
pub mod Spans
pub mod Printing
pub mod Grouping
pub mod Telling
