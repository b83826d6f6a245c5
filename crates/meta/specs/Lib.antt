pub mod Runs
pub mod Block
pub mod BlockLaws
pub mod Stored
