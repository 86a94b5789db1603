pub mod Numbers
pub mod Pollers
pub mod LocalDue
pub mod Changes
pub mod OnePoll
