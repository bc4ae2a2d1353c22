pub mod Civil
pub mod Instants
pub mod Stamps
