pub mod Trig
pub mod Single
