mod Filling
mod Items
mod Some
mod Cutting
mod Stripping
mod Placing
mod Turning
mod Joining
