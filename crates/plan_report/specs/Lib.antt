pub mod Answers
pub mod Print
