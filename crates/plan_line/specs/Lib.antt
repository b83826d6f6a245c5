pub mod Values
pub mod Readers
pub mod Tests
