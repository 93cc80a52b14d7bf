pub mod Conditions
pub mod Repeats
pub mod Comparisons
pub mod Contradictions
pub mod Ands
pub mod Laws
pub mod View
pub mod private
