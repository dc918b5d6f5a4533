pub mod Cutoff
