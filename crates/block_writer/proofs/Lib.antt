pub mod BackLaws
pub mod StartLaws
pub mod RefusalLaws
pub mod FieldLaws
pub mod JudgeLaws
