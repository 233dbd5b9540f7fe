pub mod Ruled
pub mod Single
