pub mod Statuses
pub mod Faults
