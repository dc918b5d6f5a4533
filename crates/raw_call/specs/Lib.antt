pub mod Called
pub mod Raw
pub mod Stations
