pub mod OnMemory
pub mod Steps
pub mod StoreCases
pub mod RefreshLaws
