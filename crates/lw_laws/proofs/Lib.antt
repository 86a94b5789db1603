pub mod Joined
pub mod LineLemmas
pub mod Local
pub mod NamedLines
pub mod ReportLocal
pub mod RoundsLocal
mod RunReports
