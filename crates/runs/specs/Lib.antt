pub mod Sets
pub mod Members
pub mod SetLaws
pub mod Flat
pub mod FlatLaws
pub mod Lists
