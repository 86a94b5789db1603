pub mod Words
pub mod Accepting
pub mod Rules
