pub mod Told
pub mod private
