pub mod Starts
pub mod Ready
pub mod Level
pub mod Splits
pub mod Fits
pub mod Whole
