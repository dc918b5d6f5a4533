pub mod Reply
pub mod Shown
