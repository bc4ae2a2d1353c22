pub mod Closings
pub mod Lanes
pub mod Stations
pub use Rattle.console_recorder.specs.Reply
