pub mod Night
pub mod Turns
pub mod TurnLaws
pub mod Single
