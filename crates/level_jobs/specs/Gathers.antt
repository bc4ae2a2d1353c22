-- Levels that are split into jobs, run and gathered.
use Rattle.std.specs.Prelude.{◌≡◌, ◌≤◌, ℕ, suc, List, [], ◌++◌, length, Some, slice_get, IsPermutation, Result}
use Rattle.std.specs.List.Sorted.{IsNonDecreasingBy}
use Rattle.plant_types.specs.declared.values.Trap.{Trap}
use Rattle.st_tree.specs.Meaning.{Spot}
use Rattle.crew.specs.Runs.{IsEachOnce}
use Rattle.logic_cells.specs.declared.stop.Stop.{Stop}
use Rattle.logic_cells.specs.Cells.{PlainCells}
use Rattle.plant_types.specs.Values.{Path}
use Rattle.acc_vm.specs.Codes.{PlainCode, IsSound}
use Rattle.vm_slices.specs.Parts.{PlainPart}
use Rattle.level_runs.specs.Levels.{Midway}
use Rattle.level_runs.specs.Stores.{Outcome}
use Rattle.level_plan.specs.Plans.{last_of}
use Rattle.slice_store.specs.Starts.{Begun}
use Rattle.slice_store.specs.Level.{Stored, TakesRuns}
use Rattle.slice_store.specs.Splits.{CanSplit, AreJobsBefore}
use Rattle.level_jobs.specs.Faults.{AreResultsOf, faults_told}
use Rattle.level_jobs.specs.Spotted.{spotted}
use Rattle.level_jobs.specs.declared.fault.ProgramFault.{ProgramFault}

-- how things stand between two levels by a store: the cells and the flags
abbrev pub midway : Stored → Midway PlainCells
midway store = record { store = store.cells; faulted = store.faulted }

-- a level was split from a store, its jobs ran, and their runs were gathered in any order; the faults are those that they told
pub record GathersLevel (paths : ℕ → List Path) (parts : List PlainPart) (levels : List ℕ) (level : ℕ) (old new : Stored) (faults : List (ℕ × (Spot × Trap))) : Type 0 where
  pub jobs : List Begun
  pub runs : List Begun
  pub results : List (Result (Unit {0}) Stop)
  pub can : CanSplit parts levels level old.cells (length old.faulted)
  pub split : AreJobsBefore parts levels level old (length parts) jobs
  pub each_once : IsEachOnce jobs runs
  pub taken : TakesRuns old.cells old.faulted runs new.cells new.faulted
  pub moment : new.moment ≡ old.moment
  pub ended : AreResultsOf runs results
  pub told : faults ≡ faults_told paths runs results

-- the levels 1, 2, .. up to a number in turn, and the faults of each behind those of the levels before it
pub data GathersLevels (paths : ℕ → List Path) (parts : List PlainPart) (levels : List ℕ) (start : Stored) : ℕ → Stored → List (ℕ × (Spot × Trap)) → Type 0 where
  no_level : GathersLevels paths parts levels start 0 start []
  next_level : {k : ℕ} {old new : Stored} {faults here : List (ℕ × (Spot × Trap))} → GathersLevels paths parts levels start k old faults → GathersLevel paths parts levels (suc k) old new here
      → GathersLevels paths parts levels start (suc k) new (faults ++ here)

-- all levels were gathered in turn, and faults are those that they told, by rising numbers of their programs
pub record GathersAll (parts : List PlainPart) (levels : List ℕ) (start end : Stored) (faults : List ProgramFault) : Type 0 where
  pub told : List ProgramFault
  pub gathers : (paths : ℕ → List Path) → GathersLevels paths parts levels start (last_of levels) end (spotted paths told)
  pub same : IsPermutation told faults
  pub rising : IsNonDecreasingBy (λ (fault : ProgramFault). fault.program) faults

-- the cells and the flags of a store, and faults, are those of program order
pub record EndsInOrder (order : Outcome PlainCells (Spot × Trap)) (end : Stored) (told : List (ℕ × (Spot × Trap))) : Type 0 where
  pub cells : end.cells ≡ order.store
  pub faulted : end.faulted ≡ order.faulted
  pub faults : told ≡ order.faults

-- codes are sound, and cells have what each may name
pub record FitCells (codes : List PlainCode) (cells : PlainCells) : Type 0 where
  pub sound : (p : ℕ) (a : PlainCode) → slice_get codes p ≡ Some a → IsSound a
  pub values : (p : ℕ) (a : PlainCode) → slice_get codes p ≡ Some a → a.values ≤ length cells.values
  pub clocks : (p : ℕ) (a : PlainCode) → slice_get codes p ≡ Some a → a.clocks ≤ length cells.clocks
