pub mod Stations
pub mod Stopping
pub mod Posting
pub mod Handling
