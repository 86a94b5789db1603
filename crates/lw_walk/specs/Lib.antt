pub mod WalkLines
pub mod WalkForm
pub mod Walk
