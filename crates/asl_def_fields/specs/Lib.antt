pub mod Shown
pub mod Readable
pub mod Entries
pub mod Retries
pub mod Equal
pub mod Laws
pub mod private
