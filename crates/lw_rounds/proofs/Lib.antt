pub mod Measuring
pub mod Rounding
pub mod Noting
pub mod Planning
