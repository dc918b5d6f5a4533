pub mod Standing
pub mod Accepted
pub mod Straight
pub mod Untuned
pub mod Notes
pub mod Tuned
pub mod NoKind
pub mod EachFrame
