mod Flute
pub mod Frame
