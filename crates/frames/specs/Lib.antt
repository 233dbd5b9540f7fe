pub mod Frames
pub mod AtOnceLaws
