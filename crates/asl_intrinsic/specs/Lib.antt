pub mod Tree
pub mod Grammar
pub mod Fronts
pub mod Calls
pub mod Faults
pub mod Values
pub mod Laws
pub mod private
