pub mod Reading
pub mod Walked
pub mod Read
