pub mod Formats
pub mod FormatLaws
pub mod Reader
pub mod SectionLaws
pub mod Single
