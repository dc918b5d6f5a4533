pub mod Bytes
pub mod Chunk
pub mod Refusal
