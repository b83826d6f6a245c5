pub mod Shapes
pub mod Calls1
pub mod Calls2
