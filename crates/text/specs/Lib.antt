pub mod Listing
pub mod Reply
