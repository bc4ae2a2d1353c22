pub mod Delays
pub mod Since
