pub mod Patterns
pub mod Row
