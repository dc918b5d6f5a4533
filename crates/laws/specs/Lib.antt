pub mod Run
pub mod Update
pub mod Listed
