pub mod Telling
pub mod Sound
pub mod Accepting
pub mod Picks
pub mod Doing
pub mod Earlier
pub mod Copying
pub mod Bareness
