pub mod Below
pub mod Stretches
pub mod Hearing
pub mod Spelled
