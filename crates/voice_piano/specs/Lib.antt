pub mod Constants
pub mod Hammer
pub mod Wires
pub mod Piano
pub mod Block
