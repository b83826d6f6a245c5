pub mod Exports
pub mod StoreCalls
pub mod Closures
