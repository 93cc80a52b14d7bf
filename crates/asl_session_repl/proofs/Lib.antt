mod Trees
mod Moves
mod Asking
mod Spans
mod Spaces
mod Answering
mod Typing
pub mod Keeping
pub mod Told
