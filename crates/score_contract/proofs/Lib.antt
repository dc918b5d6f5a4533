pub mod Notes
pub mod Widened
pub mod Stations
pub mod EachFrame
