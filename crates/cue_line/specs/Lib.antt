pub mod Columns
pub mod Names
pub mod Line
