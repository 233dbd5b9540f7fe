pub mod Held
pub mod Single
