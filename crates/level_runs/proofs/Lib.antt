mod Alone
mod Examples
pub mod Globals
pub mod Levels
pub mod Local
pub mod Named
pub mod Planned
pub mod Rising
pub mod Runs
pub mod Same
pub mod Tight
pub mod Turns
