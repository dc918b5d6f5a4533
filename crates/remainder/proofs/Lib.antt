mod Shifted
mod Patterns
mod Cases
