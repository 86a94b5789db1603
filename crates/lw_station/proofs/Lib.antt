pub mod Refusals
pub mod Movers
pub mod Going
pub mod Keeps
pub mod Steps
pub mod Turning
