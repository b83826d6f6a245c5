pub mod Changing
pub mod ChangeLaws
