pub mod Putting
pub mod Right
pub mod Width
pub mod Edges
