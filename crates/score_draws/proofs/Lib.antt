pub mod Adding
pub mod Last
mod Most
