pub mod WalkPieces
pub mod Walks
mod WalkExamples
