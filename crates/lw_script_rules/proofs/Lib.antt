pub mod FirstFailing
pub mod DistinctNames
pub mod RuleLemmas
