mod Dates
mod Examples
pub mod Texts
