pub mod Alone
pub mod Begun
