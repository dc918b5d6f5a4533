mod Values
pub mod Alone
mod Taking
pub mod AllCalls
pub mod Lengths
pub mod Sum
pub mod Lists
pub mod Setting
pub mod Stations
pub mod Refusals
