pub mod SpanLaws
pub mod NameLaws
pub mod PrintLaws
pub mod RefusalLaws
pub mod ReadLaws
pub mod Examples
