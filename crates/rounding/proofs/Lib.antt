mod Leading
mod Pack
mod Narrowing
pub mod Normal
mod RootLaw
mod RootCases
