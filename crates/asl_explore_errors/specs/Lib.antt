pub mod Plans
pub mod Points
pub mod Under
pub mod Searches
pub mod Rules
pub mod JsonLines
pub mod Filling
pub mod private
