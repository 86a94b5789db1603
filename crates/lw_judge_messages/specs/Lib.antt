pub mod MarksAt
pub mod RanSent
pub mod SeenLines
pub mod SendsAt
pub mod Tokens
