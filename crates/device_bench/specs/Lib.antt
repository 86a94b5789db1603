pub mod Givers
