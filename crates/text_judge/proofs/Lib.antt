pub mod Refused
mod JudgedText
pub mod Unless
pub mod Past
mod Judging
