pub mod Ways
pub mod Most
