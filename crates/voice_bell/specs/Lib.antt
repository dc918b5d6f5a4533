pub mod Bell
pub mod Block
