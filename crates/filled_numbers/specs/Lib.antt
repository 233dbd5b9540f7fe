pub mod PlaceLaws
pub mod Single
