pub mod Consoles
pub mod Sights
pub mod Views
