pub mod Cowbell
pub mod Block
