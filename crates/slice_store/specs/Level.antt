-- What a gathered level is.
use Rattle.std.specs.Prelude.{◌≡◌, ℕ, suc, ◌<◌, ◌≤◌, List, [], length, slice_get, Contains, Bool, true, false, Some, Result, Ok, Err}
use Rattle.crew.specs.Runs.{IsDistinct, IsEachOnce}
use Rattle.crew.specs.Ticks.{IsTicked}
use Rattle.logic_cells.specs.declared.stop.Stop.{Stop}
use Rattle.logic_cells.specs.Cells.{PlainCells}
use Rattle.acc_vm.specs.Codes.{SameShape}
use Rattle.vm_slices.specs.Parts.{PlainPart, HasPart, loaded}
use Rattle.vm_slices.specs.Puts.{Puts, PutsAt}
use Rattle.slice_store.specs.Starts.{Begun, Gives}

-- the values and clocks of all programs, by program whether it is faulted, the scan's moment, and the starts of the jobs that are out
pub record Stored : Type 0 where
  pub cells : PlainCells
  pub faulted : List Bool
  pub moment : ℕ
  pub out : List Begun

-- a part's code writes a slot; it reads or writes it; it names a clock
pub record WritesSlot (part : PlainPart) (slot : ℕ) : Type 0 where
  pub place : ℕ
  pub written : Contains part.written place
  pub at : slice_get part.slots place ≡ Some slot

pub record NamesSlot (part : PlainPart) (slot : ℕ) : Type 0 where
  pub place : ℕ
  pub at : slice_get part.slots place ≡ Some slot

pub record HasClock (part : PlainPart) (clock : ℕ) : Type 0 where
  pub place : ℕ
  pub at : slice_get part.clocks place ≡ Some clock

-- whether a run trapped
abbrev pub trapped : Result (Unit {0}) Stop → Bool
trapped (Ok done) = false
trapped (Err stop) = true

-- cells have what a run's program wrote, and its clocks; and it is faulted where the run trapped
pub record HasTaken (s : Begun) (cells : PlainCells) (faulted : List Bool) : Type 0 where
  pub result : Result (Unit {0}) Stop
  pub after : PlainCells
  pub gives : Gives s result after
  pub values : (i slot : ℕ) → Contains s.part.written i → slice_get s.part.slots i ≡ Some slot → slice_get cells.values slot ≡ slice_get after.values i
  pub clocks : (i k : ℕ) → slice_get s.part.clocks i ≡ Some k → slice_get cells.clocks k ≡ slice_get after.clocks i
  pub flag : (p : ℕ) → s.number ≡ suc p → slice_get faulted p ≡ Some (trapped result)

-- what a part's code wrote, and its clocks, stand in all cells as they were left in the part's
pub record PutsPart (part : PlainPart) (left old new : PlainCells) : Type 0 where
  pub values : PutsAt part.written part.slots left.values old.values new.values
  pub clocks : Puts part.clocks left.clocks old.clocks new.clocks

-- what one run gave is taken, and all else stays
pub record Takes (s : Begun) (old : PlainCells) (old_faulted : List Bool) (new : PlainCells) (faulted : List Bool) : Type 0 where
  pub shape : SameShape new old
  pub flags : length faulted ≡ length old_faulted
  pub taken : HasTaken s new faulted
  pub values : (slot : ℕ) → (WritesSlot s.part slot → ⊥) → slice_get new.values slot ≡ slice_get old.values slot
  pub clocks : (k : ℕ) → (HasClock s.part k → ⊥) → slice_get new.clocks k ≡ slice_get old.clocks k
  pub others : (p : ℕ) → (s.number ≡ suc p → ⊥) → slice_get faulted p ≡ slice_get old_faulted p

-- what each run gave is taken, and all else stays, whatever the order of the runs
pub record TakesRuns (old : PlainCells) (old_faulted : List Bool) (runs : List Begun) (new : PlainCells) (faulted : List Bool) : Type 0 where
  pub shape : SameShape new old
  pub flags : length faulted ≡ length old_faulted
  pub taken : (s : Begun) → Contains runs s → HasTaken s new faulted
  pub values : (slot : ℕ) → ((s : Begun) → Contains runs s → WritesSlot s.part slot → ⊥) → slice_get new.values slot ≡ slice_get old.values slot
  pub clocks : (k : ℕ) → ((s : Begun) → Contains runs s → HasClock s.part k → ⊥) → slice_get new.clocks k ≡ slice_get old.clocks k
  pub others : (p : ℕ) → ((s : Begun) → Contains runs s → s.number ≡ suc p → ⊥) → slice_get faulted p ≡ slice_get old_faulted p

-- jobs begin from cells, at a moment: no two are of one program, none writes a slot that another names, and no two name one clock
pub record AreJobsOf (cells : PlainCells) (programs moment : ℕ) (jobs : List Begun) : Type 0 where
  pub distinct : IsDistinct jobs
  pub inside : (s : Begun) → Contains jobs s → HasPart s.part cells
  pub loaded_from : (s : Begun) → Contains jobs s → s.cells ≡ loaded s.part cells
  pub now : (s : Begun) → Contains jobs s → s.moment ≡ moment
  pub numbered : (s : Begun) → Contains jobs s → (0 < s.number) × (s.number ≤ programs)
  pub one_program : (s t : Begun) → Contains jobs s → Contains jobs t → s.number ≡ t.number → s ≡ t
  pub apart : (s t : Begun) → Contains jobs s → Contains jobs t → (slot : ℕ) → WritesSlot s.part slot → NamesSlot t.part slot → s ≡ t
  pub clocks_apart : (s t : Begun) → Contains jobs s → Contains jobs t → (k : ℕ) → HasClock s.part k → HasClock t.part k → s ≡ t

-- runs are one for each of some jobs that begin from a store's cells, at its moment
pub record AreRunsFrom (store : Stored) (runs : List Begun) : Type 0 where
  pub jobs : List Begun
  pub begin : AreJobsOf store.cells (length store.faulted) store.moment jobs
  pub each_once : IsEachOnce jobs runs

-- the jobs that are out are of these cells, and none is ticked off
pub record IsReady (cells : PlainCells) (faulted : List Bool) (moment : ℕ) (out : List Begun) (ticks : List Bool) : Type 0 where
  pub jobs : AreJobsOf cells (length faulted) moment out
  pub clear : IsTicked out ticks []
