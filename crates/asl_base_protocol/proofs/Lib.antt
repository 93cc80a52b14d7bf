pub mod Ends
pub mod Growing
pub mod Reading
pub mod Cutting
pub mod Unique
pub mod Back
pub mod Total
