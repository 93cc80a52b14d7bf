pub mod Open
pub mod private
