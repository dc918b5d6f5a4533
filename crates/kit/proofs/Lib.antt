mod Hit
pub mod Frames
