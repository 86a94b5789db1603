pub mod OneRing
pub mod Fitting
pub mod OnePass
