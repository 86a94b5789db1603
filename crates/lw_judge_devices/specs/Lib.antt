pub mod Answered
pub mod DeviceTold
pub mod DevicesTold
pub mod Owed
pub mod OwedLines
pub mod Replayed
