pub mod Measures
pub mod Rounds
