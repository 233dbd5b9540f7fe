pub mod StageLaws
pub mod Examples
pub mod HeldLaws
pub mod LeastLaws
pub mod NeverPastLaws
pub mod PieceLaws
pub mod RefusalLaws
