pub mod Gcd
pub mod Beat
