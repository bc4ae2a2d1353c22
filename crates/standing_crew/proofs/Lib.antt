pub mod RunFaults
pub mod Gathering
