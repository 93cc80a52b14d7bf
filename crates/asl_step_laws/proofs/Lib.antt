mod Behind
mod Rows
mod Preparation
mod Placing
mod Searching
