mod Others
pub mod Hits
