pub mod Map
pub mod Shared
pub mod Judge
