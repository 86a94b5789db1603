mod Ranges
mod Filled
mod Written
