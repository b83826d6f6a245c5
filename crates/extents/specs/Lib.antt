pub mod Plan
pub mod Outcome
pub mod Steps
pub mod PlanLaws
pub mod Examples
