mod Channels
pub mod Counts
mod CountsBelow
pub mod Folds
pub mod HoldingSteps
mod InOrder
mod Layouts
pub mod Leasts
pub mod Named
mod Numbered
pub mod ThreadCounts
pub mod Threads
pub mod Wanted
pub mod Written
