pub mod Call
pub mod Refusal
pub mod Judged
