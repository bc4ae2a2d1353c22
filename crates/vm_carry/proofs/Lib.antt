pub mod Headed
pub use Rattle.vm_logic.proofs.Ranges
pub use Rattle.vm_logic.proofs.Small
pub use Rattle.vm_logic.proofs.Standing
