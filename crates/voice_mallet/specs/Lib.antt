pub mod Mallet
pub mod Block
