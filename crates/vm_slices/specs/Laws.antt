-- What stands after two runs.
use Rattle.std.specs.Prelude.{ℕ, List}
use Rattle.logic_cells.specs.Cells.{PlainCells}
use Rattle.acc_vm.specs.declared.instr.Instr.{Instr}
use Rattle.acc_vm.specs.Codes.{SameShape}
use Rattle.vm_slices.specs.Renaming.{StandsFor}
use Rattle.vm_slices.specs.Alike.{IsKept}

-- after both runs the small cells stand for the others again, the others are as they were but for what the code writes, and the small ones have the shape that they had
pub record BothAfter (f g : ℕ → ℕ) (code : List Instr) (cells small : PlainCells) (after small_after : PlainCells) : Type 0 where
  pub stands : StandsFor f g code after small_after
  pub kept : IsKept code cells after
  pub shape : SameShape small_after small
