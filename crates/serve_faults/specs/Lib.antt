pub mod Faults
pub mod Begun
