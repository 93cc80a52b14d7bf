pub mod Answers
pub mod FaultText
pub mod Grammar
pub mod Reading
pub mod Tasks
pub mod Tree
pub mod Truth
pub mod private
