pub mod Header
pub mod Write
