pub mod Few
pub mod Tables
mod Stopping
mod Alike
mod Lookups
