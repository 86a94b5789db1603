pub mod Sums
pub mod Tally
pub mod Register
pub mod Keys
pub mod World
pub mod WorldParts
