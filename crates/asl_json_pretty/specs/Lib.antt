pub mod Pretty
pub mod private
