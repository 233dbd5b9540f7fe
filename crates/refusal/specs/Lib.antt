pub mod Places
pub mod Single
