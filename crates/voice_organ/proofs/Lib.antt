mod Organ
mod Same
pub mod Frame
pub mod Bars
