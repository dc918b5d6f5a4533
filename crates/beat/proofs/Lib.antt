pub mod Euclid
pub mod Quotient
pub mod Lowest
pub mod Order
pub mod Same
pub mod Unique
