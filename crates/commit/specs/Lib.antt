pub mod Reach
pub mod Committed
pub mod CommitSteps
pub mod Held
