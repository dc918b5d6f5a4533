pub mod Sorting
pub mod Totals
pub mod Refused
mod Ways
