pub mod Filled
pub mod Grown
