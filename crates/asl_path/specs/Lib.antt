pub mod Grammar
pub mod Walk
pub mod Paths
pub mod Faults
pub mod Laws
pub mod private
