pub mod Grammar
pub mod Given
