mod Judging
pub mod Walking
pub mod Bits
pub mod Ending
