pub mod Ours
pub mod Roused
