-- Where jobs start, and what their code gives from there.
use Rattle.std.specs.Prelude.{◌≡◌, ◌<◌, ◌≤◌, ◌-◌, ℕ, List, [], length, slice_index_or, Result, IfErr}
use Rattle.logic_cells.specs.declared.stop.Stop.{Stop}
use Rattle.logic_cells.specs.Cells.{PlainCells}
use Rattle.plant_types.specs.Values.{Path}
use Rattle.logic_cells.specs.Runs.{ended}
use Rattle.acc_vm.specs.Machine.{Over}
use Rattle.acc_vm.specs.Codes.{SameShape, run_of}
use Rattle.vm_slices.specs.Parts.{PlainPart, IsPart}

-- a part of nothing
abbrev pub no_part : PlainPart
no_part = record { code = record { instrs = []; places = []; paths = 0; values = 0; clocks = 0; stack = 0; cost = 0 }; slots = []; written = []; clocks = [] }

-- the part of a number, from 1 on, in a list of parts
abbrev pub part_of : List PlainPart → ℕ → PlainPart
part_of parts number = slice_index_or parts (number - 1) no_part

-- a list of parts has one of this number
pub record HasNumber (parts : List PlainPart) (number : ℕ) : Type 0 where
  pub above : 0 < number
  pub inside : number ≤ length parts

-- a job's number, the part of its program, the moment, and the part's cells as they were
pub record Begun : Type 0 where
  pub number : ℕ
  pub part : PlainPart
  pub moment : ℕ
  pub cells : PlainCells

-- a job can run: its part is one, and its cells have each slot and each clock of it
pub record CanRun (s : Begun) : Type 0 where
  pub part : IsPart s.part
  pub values : length s.cells.values ≡ length s.part.slots
  pub clocks : length s.cells.clocks ≡ length s.part.clocks

-- from a start the code gives a result, and leaves cells; the path of a trap is one of the code's
pub record Gives (s : Begun) (result : Result (Unit {0}) Stop) (after : PlainCells) : Type 0 where
  pub ran : (names : List Path) → (left : ℕ) × (run_of s.moment names s.part.code s.cells ≡ Over (ended names result after) left)
  pub shape : SameShape after s.cells
  pub path : IfErr result (λ stop. stop.place.path < s.part.code.paths)
