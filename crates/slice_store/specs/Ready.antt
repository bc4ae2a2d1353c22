-- When a job is ready to run.
use Rattle.std.specs.Prelude.{◌≤◌, ℤ, List, length}
use Rattle.logic_cells.specs.Cells.{PlainCells}
use Rattle.acc_vm.specs.Codes.{SameShape}
use Rattle.slice_store.specs.Starts.{Begun}

-- a job has room for its start's cells, and the words of stack that its code needs
pub record IsReadyJob (s : Begun) (cells : PlainCells) (stack : List ℤ) : Type 0 where
  pub shape : SameShape cells s.cells
  pub room : s.part.code.stack ≤ length stack
