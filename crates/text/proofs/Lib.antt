mod Shown
pub mod Replying
pub mod Refused
pub mod Most
