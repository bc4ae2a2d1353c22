pub mod Parts
pub mod Takes
