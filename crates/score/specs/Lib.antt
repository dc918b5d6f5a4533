pub mod Score
pub mod Refusals
pub mod EachFrame
