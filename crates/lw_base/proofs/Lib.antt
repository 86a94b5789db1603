pub mod Bools
pub mod Lists
mod Pieces
mod Readings
pub mod Totals
pub mod TextLines
