pub mod Pages
pub mod Refusals
