pub mod Serving
pub mod Handling
pub mod Keeping
pub mod Leaving
