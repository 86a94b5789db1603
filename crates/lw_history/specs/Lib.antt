pub mod Histories
pub mod Fitting
pub mod Made
pub mod GoingOn
pub mod Keeping
pub mod Noting
pub mod Holding
pub mod Leaving
