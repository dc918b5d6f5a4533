pub mod Differences
pub mod Quarters
pub mod Remainder
