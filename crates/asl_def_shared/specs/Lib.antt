pub mod Parts
pub mod Bodies
pub mod Built
pub mod Member
pub mod Texts
pub mod Equal
pub mod Laws
pub mod private
