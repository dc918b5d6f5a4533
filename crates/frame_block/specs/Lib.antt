pub mod Decay
pub mod Run
pub mod Table
