pub mod Answer
pub mod Queue
pub mod Registers
pub mod Shape
pub mod Write
pub mod Whole
pub mod Tick
pub mod Claim
