pub mod Room
pub mod Steps
pub mod Start
