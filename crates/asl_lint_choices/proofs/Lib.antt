mod Listed
pub mod Parts
mod Each
mod Asking
mod Standing
mod Repeating
mod Looking
mod Passing
mod Differing
mod Excluding
mod Contradicting
mod Deep
