pub mod Drums
pub mod Cymbals
pub mod Electronic
pub mod Block
