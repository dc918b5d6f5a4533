mod Rings
mod Lent
pub mod Kept
