pub mod Workers
pub mod Reactors
pub mod Stopping
pub mod Rounding
pub mod Polling
pub mod Turns
