pub mod Items
pub mod Show
pub mod Choosing
pub mod Newer
pub mod Equal
pub mod Laws
pub mod private
