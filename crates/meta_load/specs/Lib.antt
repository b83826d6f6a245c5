pub mod Load
pub mod LoadLaws
pub mod RoundTrip
