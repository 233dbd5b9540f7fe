pub mod House
pub mod BlockLaws
pub mod FaultLaws
pub mod PackLaws
pub mod PayloadLaws
pub mod LengthLaws
pub mod Single
pub mod RefusalLaws
