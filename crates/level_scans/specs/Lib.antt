pub mod Faults
pub mod Levels
pub mod Runs
pub mod Scans
pub use Rattle.vm_carry.specs.Runs as VmLogicRuns
pub use Rattle.vm_carry.specs.Sound
pub use Rattle.vm_carry.specs.Stands
