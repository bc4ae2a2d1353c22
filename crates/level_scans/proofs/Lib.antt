mod CodeRuns
mod PlacedFaults
pub mod ByLevels
mod FirstParts
pub mod ProgramRuns
pub use Rattle.vm_carry.proofs.Ranges
pub use Rattle.vm_carry.proofs.Small
pub use Rattle.vm_carry.proofs.Standing
