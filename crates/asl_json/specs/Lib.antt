pub mod Access
pub mod Keys
pub mod Meaning
pub mod Same
pub mod Sound
pub mod View
pub mod Whole
pub mod private
