pub mod ReaderLaws
pub mod Public
