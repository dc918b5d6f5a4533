pub mod Plain
pub mod Pulse
pub mod Fm
pub mod Block
pub mod Stepped
