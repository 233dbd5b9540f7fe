pub mod Start
pub mod StartLaws
pub mod Single
pub mod RefusalLaws
