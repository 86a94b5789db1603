pub mod ByHand
pub mod Fitting
pub mod Pairs
pub mod Passes
pub mod Rings
pub mod Standing
pub mod Waiting
