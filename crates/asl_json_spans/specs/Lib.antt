pub mod Places
pub mod Standing
pub mod Position
pub mod private
