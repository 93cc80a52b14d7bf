pub mod Wants
pub mod Known
pub mod Cutting
pub mod Reading
pub mod Failing
pub mod private
