mod AlarmExamples
pub mod CellWorlds
pub mod Images
pub mod OrderLaws
pub mod Reloaded
pub mod FoundReload
mod ReloadExamples
pub mod Outs
pub mod Systems
pub mod Twins
pub mod InRange
pub mod Shown
mod Watches
mod Follows
pub use Rattle.level_scans.proofs.Ranges
