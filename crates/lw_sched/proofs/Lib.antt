pub mod Loads
pub mod Tallies
pub mod Leasts
pub mod Looks
pub mod PlanSteps
