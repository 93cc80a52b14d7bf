mod Doing
mod Having
mod Held
mod Parts
mod Talks
mod Serves
pub mod Lints
