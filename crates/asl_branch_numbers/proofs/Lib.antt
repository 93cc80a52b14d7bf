pub mod AtPlaces
pub mod AsNumbers
