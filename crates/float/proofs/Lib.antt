pub mod Wholes
pub mod Signs
mod Casting
pub mod Signed
mod Highest
mod Narrower
