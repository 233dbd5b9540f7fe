pub mod Block
pub mod Fields
pub mod Read
pub mod BlockFaults
pub mod LengthsLaws
