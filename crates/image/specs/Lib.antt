pub mod Reading
pub mod ImageReads
