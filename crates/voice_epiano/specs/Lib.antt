pub mod Block
pub mod Epiano
