pub mod LoadRule
pub mod LoadEnds
