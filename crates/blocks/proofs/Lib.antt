pub mod Block
pub mod Counted
pub mod Carried
pub mod Rows
pub mod Advanced
