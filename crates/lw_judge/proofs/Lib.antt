pub mod Reports
mod RuleAfterRule
pub mod WalkSteps
