pub mod DelayLaws
mod Examples
pub mod Keeping
pub mod MetLaws
