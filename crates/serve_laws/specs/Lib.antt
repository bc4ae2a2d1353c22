pub mod Told
pub mod Records
