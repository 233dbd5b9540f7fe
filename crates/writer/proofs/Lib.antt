pub mod RoundTripLaws
pub mod RefusalLaws
pub mod ManyLaws
pub mod WriteLaws
