pub mod Block
pub mod Flute
