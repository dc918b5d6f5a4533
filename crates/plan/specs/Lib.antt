pub mod Order
pub mod Plan
