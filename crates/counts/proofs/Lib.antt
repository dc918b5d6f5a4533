pub mod Early
pub mod Thump
pub mod Periods
pub mod Drawing
