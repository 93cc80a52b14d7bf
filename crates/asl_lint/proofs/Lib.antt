pub mod Telling
pub mod Mocking
pub mod Writing
pub mod Sorting
pub mod Sentences
pub mod Issuing
