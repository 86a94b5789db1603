pub mod PlaceWord
pub mod PlaceTable
pub mod PlaceSeats
