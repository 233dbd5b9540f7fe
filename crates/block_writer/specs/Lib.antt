pub mod Fields
pub mod Tree
pub mod Write
pub mod Plan
pub mod PlanLaws
pub mod PutLaws
pub mod Single
