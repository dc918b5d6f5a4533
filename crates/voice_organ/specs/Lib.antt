pub mod Organ
pub mod Block
