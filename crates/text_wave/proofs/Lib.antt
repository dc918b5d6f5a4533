mod Patterns
pub mod Filing
pub mod Enough
