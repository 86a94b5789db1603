pub mod Flags
pub mod Apps
pub mod Handling
pub mod Ticking
pub mod Logging
pub mod Keeping
pub mod Leaving
