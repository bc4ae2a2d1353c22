pub mod Banks
pub mod Marks
pub mod Moves
pub mod Reloads
pub mod Shelves
pub use Rattle.alarm_counts.specs.Counts
pub use Rattle.alarm_counts.specs.declared.counted.Counted
