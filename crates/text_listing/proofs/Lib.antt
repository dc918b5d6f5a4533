pub mod Put
pub mod Numbers
pub mod Listings
pub mod Edges
