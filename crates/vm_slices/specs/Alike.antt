-- When two runs go alike, and what a run keeps.
use Rattle.std.specs.Prelude.{◌≡◌, ℕ, List, slice_get}
use Rattle.st_tree.specs.Meaning.{Ran, Done, Trapped}
use Rattle.logic_cells.specs.Cells.{PlainCells}
use Rattle.acc_vm.specs.declared.instr.Instr.{Instr}
use Rattle.acc_vm.specs.Machine.{Run, Over, Unfinished, Stuck}
use Rattle.acc_vm.specs.Codes.{SameShape}
use Rattle.vm_slices.specs.Slots.{Writes, NamesClock}

-- two runs that are over end alike: both reach the end, or both have the same trap at the same spot; and what they leave is related
abbrev pub EndAlike : (PlainCells → PlainCells → Type 0) → Ran PlainCells → Ran PlainCells → Type 0
EndAlike R (Done w) (Done v) = R w v
EndAlike R (Trapped w spot trap) (Trapped v other reason) = R w v × (spot ≡ other) × (trap ≡ reason)
EndAlike R (Done w) (Trapped v other reason) = ⊥
EndAlike R (Trapped w spot trap) (Done v) = ⊥

-- two runs go alike: they are over with as much fuel left and end alike, or both have no fuel left, or both are stuck
abbrev pub GoAlike : (PlainCells → PlainCells → Type 0) → Run → Run → Type 0
GoAlike R (Over r left) (Over q rest) = EndAlike R r q × (left ≡ rest)
GoAlike R Unfinished Unfinished = Unit {0}
GoAlike R Stuck Stuck = Unit {0}
GoAlike R _ _ = ⊥

-- cells are as others were but for what a code writes and the clocks that it names
pub record IsKept (code : List Instr) (before cells : PlainCells) : Type 0 where
  pub values : (s : ℕ) → (Writes code s → ⊥) → slice_get cells.values s ≡ slice_get before.values s
  pub clocks : (k : ℕ) → (NamesClock code k → ⊥) → slice_get cells.clocks k ≡ slice_get before.clocks k
  pub shape : SameShape cells before

-- what a run leaves has a property
abbrev pub EndsIn : (PlainCells → Type 0) → Ran PlainCells → Type 0
EndsIn P (Done w) = P w
EndsIn P (Trapped w spot trap) = P w

abbrev pub Leaves : (PlainCells → Type 0) → Run → Type 0
Leaves P (Over r left) = EndsIn P r
Leaves P Unfinished = Unit {0}
Leaves P Stuck = Unit {0}
