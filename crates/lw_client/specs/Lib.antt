pub mod Clients
pub mod Doing
pub mod Using
pub mod Turning
pub mod Going
pub mod Handling
pub mod Serving
pub mod Keeping
