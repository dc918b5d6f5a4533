mod Eight
pub mod Whole
pub mod Ends
