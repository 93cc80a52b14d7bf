pub mod Fields
pub mod Grammar
pub mod Standing
pub mod private
pub mod Message
