pub mod Note
pub mod Score
