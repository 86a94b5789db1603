pub mod LineParts
pub mod LineKinds
pub mod Once
pub mod MoveLines
