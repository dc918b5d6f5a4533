pub mod Longest
pub mod Ceiling
mod Held
mod Notes
pub mod Reached
