pub use Rattle.logic_carry.specs.Stands
pub use Rattle.vm_logic.specs.Bases
pub use Rattle.vm_logic.specs.Runs
pub use Rattle.vm_logic.specs.Sound
