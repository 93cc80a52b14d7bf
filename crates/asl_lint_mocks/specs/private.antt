-- Words that only proofs need.
pub mod Fitting
pub mod Known
pub mod Spots
pub mod Tops
