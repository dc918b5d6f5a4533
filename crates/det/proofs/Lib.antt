pub mod Casts
pub mod Numbers
pub mod Powers
pub mod Pattern
pub mod Differences
pub mod Sums
pub mod Below
pub mod Above
