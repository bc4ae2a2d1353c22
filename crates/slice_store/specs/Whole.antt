-- What a gathered run is, told of all cells.
use Rattle.std.specs.Prelude.{◌≡◌, ℕ, suc, List, Bool, Some, slice_get, Result}
use Rattle.logic_cells.specs.declared.stop.Stop.{Stop}
use Rattle.logic_cells.specs.Cells.{PlainCells}
use Rattle.plant_types.specs.Values.{Path}
use Rattle.logic_cells.specs.Runs.{ended}
use Rattle.acc_vm.specs.Machine.{Over}
use Rattle.acc_vm.specs.Codes.{PlainCode, run_of}
use Rattle.vm_slices.specs.Slots.{Writes, NamesClock}
use Rattle.vm_slices.specs.Alike.{IsKept}
use Rattle.slice_store.specs.Starts.{Begun}
use Rattle.slice_store.specs.Level.{trapped}

-- the code of a job's program, run from all cells as they were before the level, ends so; all cells have now what it wrote, and its clocks; and the program is faulted where it trapped
pub record TookWhole (names : List Path) (whole : PlainCode) (s : Begun) (old new : PlainCells) (faulted : List Bool) : Type 0 where
  pub result : Result (Unit {0}) Stop
  pub after : PlainCells
  pub left : ℕ
  pub run : run_of s.moment names whole old ≡ Over (ended names result after) left
  pub kept : IsKept whole.instrs old after
  pub values : (slot : ℕ) → Writes whole.instrs slot → slice_get new.values slot ≡ slice_get after.values slot
  pub clocks : (k : ℕ) → NamesClock whole.instrs k → slice_get new.clocks k ≡ slice_get after.clocks k
  pub flag : (p : ℕ) → s.number ≡ suc p → slice_get faulted p ≡ Some (trapped result)
