pub mod States
pub mod Draws
