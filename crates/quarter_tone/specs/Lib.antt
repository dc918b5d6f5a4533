pub mod Tones
pub mod Rule
pub mod Lookup
pub mod Halves
