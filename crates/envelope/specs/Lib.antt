pub mod Envelope
pub mod Stages
