pub mod PreludeLaws
pub mod PrintLaws
pub mod RefusalLaws
