pub mod ByTests
mod Staging
mod Rising
mod Parting
