mod Steps
mod Rows
pub mod Overwriting
