pub mod Tidy
pub mod Plain
pub mod Walk
pub mod Single
pub mod Kinds
