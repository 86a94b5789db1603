pub mod Sizes
pub mod PoolRule
pub mod PoolEnds
pub mod Lending
