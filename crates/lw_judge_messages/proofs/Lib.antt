mod Added
mod AllOf
mod DistinctTokens
mod RanTests
mod RunTokens
mod RunnerLists
mod SeenTests
mod SendSteps
mod SenderCounts
mod Sending
mod TokenLemmas
mod VisitMarks
mod VisitResults
pub mod VisitThreads
