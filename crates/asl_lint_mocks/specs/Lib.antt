pub mod Places
pub mod Lost
pub mod Warnings
pub mod Beside
pub mod Laws
pub mod private
