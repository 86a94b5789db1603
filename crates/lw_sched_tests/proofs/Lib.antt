pub mod GoingOn
pub mod NewCells
