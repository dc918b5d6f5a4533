pub mod Number
pub mod Humanize
pub mod Timing
pub mod Length
pub mod Mapped
