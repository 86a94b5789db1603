mod Pairing
mod Joining
mod Settled
mod AllRows
mod NewRows
mod Beginning
pub mod RowLaws
