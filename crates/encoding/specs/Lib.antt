pub mod StateBytes
pub mod Called
