-- Runs of programs over cells, and what they are in the worlds that the cells stand for.
use Rattle.std.specs.Prelude.{◌≡◌, ℕ, Bool, true, false, List, map, Option, Some, None}
use Rattle.plant_types.specs.declared.values.Trap.{Trap}
use Rattle.plant_types.specs.declared.values.Place.{Place}
use Rattle.st_tree.specs.Meaning.{Ran, Done, Trapped}
use Rattle.logic_source.specs.Source.{Source}
use Rattle.logic_source.specs.Worlds.{World, run_program}
use Rattle.logic_cells.specs.Cells.{PlainCells}
use Rattle.vm_carry.specs.Stands.{StandFor}
use Rattle.vm_carry.specs.Runs.{place_spot}
use Rattle.level_scans.specs.Scans.{Scanned, programs_from}

-- what a program does, by its flag: a faulted one is skipped
abbrev pub run_by : Bool → Source → ℕ → ℕ → World → Ran World
run_by true source n t w = Done w
run_by false source n t w = run_program source n t w

-- how a run over cells ended, by its fault
abbrev pub ended_by : Source → Option (Place × Trap) → PlainCells → Ran PlainCells
ended_by source None cells = Done cells
ended_by source (Some fault) cells = Trapped cells (place_spot source fault.0) fault.1

-- cells, flags and faults by place are what the programs leave in worlds
pub record ProgramsRan (source : Source) (r : Scanned) (cells : PlainCells) (faulted : List Bool) (faults : List (Place × Trap)) : Type 0 where
  pub world_stands : StandFor source cells r.world
  pub faulted_is : faulted ≡ r.faulted
  pub faults_are : map (λ f. (place_spot source f.0, f.1)) faults ≡ r.faults

-- what programs make of cells and flags at a moment, and the faults, is what they leave in order in each world that the cells stand for
abbrev pub ProgramsRanInOrder : Source → ℕ → (cells : PlainCells) (faulted : List Bool) → (left : PlainCells) (flags : List Bool) (faults : List (Place × Trap)) → Type 0
ProgramsRanInOrder source t cells faulted left flags faults = (w : World) → StandFor source cells w → ProgramsRan source (programs_from source t 0 faulted w) left flags faults
