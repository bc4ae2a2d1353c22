pub mod Counts
pub mod Limits
pub mod Measures
pub mod Weighed
