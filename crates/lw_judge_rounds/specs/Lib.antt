pub mod Differences
pub mod OrdersOf
pub mod RoundsAt
