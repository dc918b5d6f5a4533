mod Modulation
mod Stepped
mod Levels
pub mod Ran
