pub mod Files
pub mod Writing
