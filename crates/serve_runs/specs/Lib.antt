pub mod Admits
pub mod Services
