pub mod Opened
pub mod OpeningCases
pub mod BeginCases
