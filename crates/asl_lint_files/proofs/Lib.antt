pub mod Paired
mod Telling
