pub mod Sums
pub mod Tallies
pub mod Registers
pub mod Worlds
pub mod Kept
pub mod FirstWorld
