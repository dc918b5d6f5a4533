pub mod Alone
pub mod Tally
pub mod Claim
pub mod Sum
pub mod Lists
pub mod Setting
pub mod Stations
pub mod Refusals
