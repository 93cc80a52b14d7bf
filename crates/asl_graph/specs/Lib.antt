pub mod Members
pub mod Names
pub mod Lines
pub mod Edges
pub mod Conditions
pub mod Formats
pub mod Graphs
pub mod Marks
