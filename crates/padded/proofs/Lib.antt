pub mod PaddedLaws
pub mod PaddedWalk
