pub mod Lengths
pub mod Single
