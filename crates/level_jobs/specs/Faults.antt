-- The faults that runs tell.
use Rattle.std.specs.Prelude.{ℕ, zero, suc, List, [], ◌∷◌, Option, Some, None, Result, Ok, Err}
use Rattle.plant_types.specs.declared.values.Trap.{Trap}
use Rattle.st_tree.specs.Meaning.{Spot}
use Rattle.logic_cells.specs.declared.stop.Stop.{Stop}
use Rattle.logic_cells.specs.Cells.{PlainCells}
use Rattle.plant_types.specs.Values.{Path}
use Rattle.logic_cells.specs.Runs.{spot_of}
use Rattle.level_runs.specs.Stores.{with_fault}
use Rattle.slice_store.specs.Starts.{Begun, Gives}

-- the number of a job's program: the job's own is 1 more
abbrev pub before : ℕ → ℕ
before zero = 0
before (suc p) = p

abbrev pub program_of : Begun → ℕ
program_of s = before s.number

-- a run's trap, at its spot by the names of the paths, if it trapped
abbrev pub trap_told : List Path → Result (Unit {0}) Stop → Option (Spot × Trap)
trap_told names (Ok _) = None
trap_told names (Err stop) = Some (spot_of names stop.place, stop.trap)

-- results are those of runs, one for each
abbrev pub AreResultsOf : List Begun → List (Result (Unit {0}) Stop) → Type 0
AreResultsOf [] [] = Unit {0}
AreResultsOf (s ∷ runs) (result ∷ results) = ((after : PlainCells) × Gives s result after) × AreResultsOf runs results
AreResultsOf _ _ = ⊥

-- the faults of runs with these results, as the runs came, by the names of each program's paths
abbrev pub faults_told : (ℕ → List Path) → List Begun → List (Result (Unit {0}) Stop) → List (ℕ × (Spot × Trap))
faults_told paths (s ∷ runs) (result ∷ results) = with_fault (program_of s) (trap_told (paths (program_of s)) result) (faults_told paths runs results)
faults_told paths _ _ = []
