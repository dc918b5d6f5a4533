pub mod Nearest
pub mod OneSum
pub mod Quarter
pub mod Sizes
pub mod Whole
