pub mod Tasks
pub mod Kinds
pub mod Answering
pub mod Free
