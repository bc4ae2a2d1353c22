-- The faults that a run of levels hands out.
use Rattle.std.specs.Prelude.{◌≡◌, ◌<◌, ℕ, All, Contains, List, length, map, Result}
use Rattle.plant_types.specs.declared.values.Trap.{Trap}
use Rattle.st_tree.specs.Meaning.{Spot}
use Rattle.logic_cells.specs.declared.stop.Stop.{Stop}
use Rattle.plant_types.specs.Values.{Path}
use Rattle.logic_cells.specs.Runs.{spot_of}
use Rattle.acc_vm.specs.Codes.{PlainCode}
use Rattle.level_runs.specs.Programs.{code_at}
use Rattle.slice_store.specs.Starts.{Begun}
use Rattle.level_jobs.specs.Faults.{program_of, AreResultsOf, faults_told}
use Rattle.level_jobs.specs.declared.fault.ProgramFault.{ProgramFault}

-- faults with their spots, by the names of each program's paths
abbrev pub spotted_fault : (ℕ → List Path) → ProgramFault → ℕ × (Spot × Trap)
spotted_fault paths fault = (fault.program, (spot_of (paths fault.program) fault.stop.place, fault.stop.trap))

abbrev pub spotted : (ℕ → List Path) → List ProgramFault → List (ℕ × (Spot × Trap))
spotted paths faults = map (spotted_fault paths) faults

-- a fault is of one of the programs of codes, and its path is one of that program's code
pub record HasItsPath (codes : List PlainCode) (fault : ProgramFault) : Type 0 where
  pub program : fault.program < length codes
  pub path : fault.stop.place.path < (code_at codes fault.program).paths

-- a fault is of the program of one of some runs, and its path is one of that run's code
pub record IsOfRun (runs : List Begun) (fault : ProgramFault) : Type 0 where
  pub run : Begun
  pub there : Contains runs run
  pub program : fault.program ≡ program_of run
  pub path : fault.stop.place.path < run.part.code.paths

-- faults are those that runs tell
pub record Tell (runs : List Begun) (faults : List ProgramFault) : Type 0 where
  pub results : List (Result (Unit {0}) Stop)
  pub ended : AreResultsOf runs results
  pub told : (paths : ℕ → List Path) → spotted paths faults ≡ faults_told paths runs results
  pub of_runs : All (IsOfRun runs) faults
