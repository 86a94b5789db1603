pub mod Counts
pub mod Keeping
pub mod Queueing
pub mod OnePoll
pub mod Pausing
