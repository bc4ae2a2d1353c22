pub mod Entries
pub mod Gathered
pub mod Lookups
pub mod Twice
pub mod Scanned
pub mod Asked
pub mod Examples
