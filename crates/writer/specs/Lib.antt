pub mod Write
pub mod Single
