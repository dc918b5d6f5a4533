pub mod Bass
pub mod Block
