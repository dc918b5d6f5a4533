pub mod Modulo
mod Halves
mod Rotation
