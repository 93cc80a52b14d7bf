pub mod Document
pub mod Form
pub mod Places
pub mod Spelled
pub mod Told
pub mod Lines
