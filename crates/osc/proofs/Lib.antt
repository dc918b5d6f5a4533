pub mod Frames
pub mod Wholes
