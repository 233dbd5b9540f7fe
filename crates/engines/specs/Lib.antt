pub mod Same
pub mod VerdictLaws
