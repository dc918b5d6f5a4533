mod Table
mod Lookup
mod Amid
pub mod Nearest
pub mod Octaves
mod Halving
pub mod Bits
