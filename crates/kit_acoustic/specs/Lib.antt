pub mod Drums
pub mod Clap
pub mod Cymbals
pub mod Acoustic
pub mod Block
