mod Lengths
mod Levels
