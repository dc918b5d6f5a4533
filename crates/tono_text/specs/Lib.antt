pub mod Planned
pub mod CueSheet
