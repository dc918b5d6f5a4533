pub mod Strings
pub mod Block
