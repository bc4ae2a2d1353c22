pub mod Ticks
pub mod Taking
pub mod Splitting
pub mod Whole
pub mod Parting
