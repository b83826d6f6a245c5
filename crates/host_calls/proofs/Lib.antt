pub mod Seen
pub mod Host
pub mod LastCall
pub mod CCallLaws
pub mod Barred
