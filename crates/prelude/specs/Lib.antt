pub mod Prelude
pub mod Single
