pub mod Count
pub mod CountLaws
pub mod Single
pub mod Examples
