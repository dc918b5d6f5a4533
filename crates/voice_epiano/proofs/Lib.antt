mod Epiano
pub mod Frame
