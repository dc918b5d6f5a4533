pub mod Words
pub mod Ran
