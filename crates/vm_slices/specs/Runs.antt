-- A run in a part, told of all cells.
use Rattle.std.specs.Prelude.{◌≡◌, ℕ, List, Result}
use Rattle.logic_cells.specs.declared.stop.Stop.{Stop}
use Rattle.logic_cells.specs.Cells.{PlainCells}
use Rattle.plant_types.specs.Values.{Path}
use Rattle.logic_cells.specs.Runs.{ended}
use Rattle.acc_vm.specs.Machine.{Over}
use Rattle.acc_vm.specs.Codes.{PlainCode, run_of}
use Rattle.vm_slices.specs.Parts.{PlainPart, PartAfter}

-- a code's run from all cells ends with a result, where the part's cells are left so
pub record RunsWhole (t : ℕ) (names : List Path) (whole : PlainCode) (part : PlainPart) (cells : PlainCells) (result : Result (Unit {0}) Stop) (small : PlainCells) (left : ℕ) : Type 0 where
  pub after : PlainCells
  pub run : run_of t names whole cells ≡ Over (ended names result after) left
  pub is : PartAfter whole part cells after small
