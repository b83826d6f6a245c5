pub mod Decimal
pub mod Text
pub mod Read
pub mod Places
pub mod Write
