pub mod Osc
pub mod Phase
