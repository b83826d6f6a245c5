pub mod Reads
pub mod ReadLaws
