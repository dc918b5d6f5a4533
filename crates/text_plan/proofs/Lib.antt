mod Telling
pub mod Ready
