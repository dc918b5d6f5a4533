pub mod Rounded
pub mod Exp
pub mod Low
pub mod Ln
pub mod Pow
pub mod Tanh
pub mod Single
