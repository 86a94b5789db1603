pub mod AgainstAt
pub mod Firsts
pub mod Folded
pub mod Holdings
pub mod LinesOf
