pub mod Programs
pub mod Image
pub mod Orders
pub mod Reloads
pub mod System
pub mod Watches
pub mod Reports
pub mod Faults
pub mod States
pub mod Steps
pub use Rattle.engine_history.specs.AlarmRow
pub use Rattle.engine_history.specs.Code
pub use Rattle.engine_history.specs.Names
pub use Rattle.engine_history.specs.Orderers
pub use Rattle.engine_history.specs.Plants
pub use Rattle.engine_history.specs.Reloads as EngineHistoryReloads
pub use Rattle.engine_history.specs.contracts.event.Event as EngineHistoryEvent
pub use Rattle.engine_history.specs.declared.event.Event
pub use Rattle.level_scans.specs.Levels
pub use Rattle.level_scans.specs.Sound
pub use Rattle.level_scans.specs.VmLogicRuns
