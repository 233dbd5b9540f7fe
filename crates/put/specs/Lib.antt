pub mod Output
pub mod OutputLaws
pub mod Single
