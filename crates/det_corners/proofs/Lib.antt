pub mod Nearness
pub mod Reduction
pub mod Top
pub mod Scaling
pub mod Corners
pub mod Wrappers
pub mod Examples
