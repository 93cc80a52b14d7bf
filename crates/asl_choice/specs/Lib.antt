pub mod Rules
pub mod Patterns
pub mod Truth
pub mod Seen
pub mod private
pub mod Equal
pub mod Laws
