pub mod FreshRows
pub mod RunRows
pub mod Table
