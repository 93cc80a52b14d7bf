pub mod Taken
pub mod Trees
pub mod Invoked
pub mod Told
pub mod Entered
pub mod Ended
pub mod Edges
pub mod Marked
