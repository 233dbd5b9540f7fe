pub mod NameLaws
pub mod StepLaws
pub mod LenientLaws
pub mod RefusalLaws
pub mod Scan
