pub mod Accessing
pub mod Depths
pub mod Equality
pub mod Fitting
pub mod Knowing
pub mod Sounding
pub mod Wholes
pub mod Pushing
