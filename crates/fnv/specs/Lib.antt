pub mod Fnv
pub mod Products
pub mod Parts
pub mod Zeros
