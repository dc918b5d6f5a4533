pub mod Walking
pub mod Judging
