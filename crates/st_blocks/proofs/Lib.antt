mod Examples
mod Lists
mod LevelSteps
mod Searching
mod Moved
mod Rows
mod Numbered
mod Judged
mod Depths
mod Falling
pub mod Decided
