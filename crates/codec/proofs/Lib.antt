pub mod Laws
pub mod StepLaws
pub mod LenientLaws
pub mod EditLaws
pub mod RefusalLaws
pub mod PlaceLaws
pub mod Format
pub mod FaultLaws
