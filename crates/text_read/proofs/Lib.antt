pub mod Shorter
pub mod Fives
pub mod Gather
pub mod Texts
pub mod Said
pub mod Whole
pub mod Edges
pub mod EachFrame
