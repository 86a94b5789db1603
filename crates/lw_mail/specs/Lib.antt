pub mod Runs
pub mod Saying
pub mod Fitting
