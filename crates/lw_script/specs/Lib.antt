pub mod Shape
pub mod Form
pub mod Fitted
