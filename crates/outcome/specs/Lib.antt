pub mod Outcome
pub mod Answer
pub mod First
pub mod Domain
