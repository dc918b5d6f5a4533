pub mod Frames
pub mod ScoreCall
pub mod SessionCall
pub mod EachFrame
