pub mod Period
pub mod Draws
