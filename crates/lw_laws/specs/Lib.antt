pub mod LinePlaces
pub mod NamedLines
pub mod Written
