pub mod Knobs
