pub mod Owners
pub mod OwnerLaws
