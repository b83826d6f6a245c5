pub mod Views
pub mod ReadCases
