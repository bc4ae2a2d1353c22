pub mod Clocks
pub mod Cells
pub mod Runs
