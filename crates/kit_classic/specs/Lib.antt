pub mod Drums
pub mod Cymbals
pub mod Classic
pub mod Block
