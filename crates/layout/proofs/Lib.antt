pub mod Laws
pub mod Labelling
pub mod Public
