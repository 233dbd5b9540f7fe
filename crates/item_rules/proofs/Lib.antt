pub mod Search
pub mod InOrder
pub mod Loops
pub mod Walks
pub mod Turns
pub mod Painting
pub mod Verdicts
