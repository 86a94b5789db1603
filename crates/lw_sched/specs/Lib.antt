pub mod Sums
pub mod BestOf
