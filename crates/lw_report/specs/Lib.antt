pub mod Machine
pub mod Rounds
pub mod Report
pub mod Parsed
pub mod Ranges
