pub mod Voice
