pub mod Opened
pub mod Named
