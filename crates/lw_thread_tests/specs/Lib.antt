pub mod Turns
pub mod Rings
