pub mod Cues
pub mod Pages
pub mod Sheets
pub mod Long
