pub mod Rows
pub mod RoundTrip
