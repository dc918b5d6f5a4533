pub mod Ring
pub mod Shapes
pub mod TickEnds
pub mod Order
pub mod Bytes
pub mod Writes
pub mod Ticks
pub mod Lists
