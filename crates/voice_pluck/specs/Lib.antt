pub mod Constants
pub mod Guitar
pub mod Pluck
