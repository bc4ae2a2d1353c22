-- What a scan's programs make of the world, by the source.
use Rattle.std.specs.Prelude.{ℕ, ◌+◌, Bool, true, false, List, [], ◌∷◌}
use Rattle.plant_types.specs.declared.values.Trap.{Trap}
use Rattle.st_tree.specs.Meaning.{Ran, Done, Trapped, Spot}
use Rattle.logic_source.specs.Source.{Source}
use Rattle.logic_source.specs.Worlds.{World, run_program}

-- what a scan's programs leave: the world, for each program whether it is faulted, and the faults in program order
pub record Scanned : Type 0 where
  pub world : World
  pub faulted : List Bool
  pub faults : List (Spot × Trap)

-- a program's flag is put before those of the programs after it
abbrev pub with_flag : Bool → Scanned → Scanned
with_flag flag rest = record rest { faulted = flag ∷ rest.faulted }

-- a fault is put before those of the programs after it
abbrev pub with_fault : Spot → Trap → Scanned → Scanned
with_fault spot trap rest = record rest { faults = (spot, trap) ∷ rest.faults }

-- a program that ends is followed by the others; so is one that traps: it is faulted then, and what it assigned before is kept
abbrev pub after_run : Ran World → (World → Scanned) → Scanned
after_run (Done w) others = with_flag false (others w)
after_run (Trapped w spot trap) others = with_flag true (with_fault spot trap (others w))

-- the programs from a number on, in order: one that is faulted is skipped
abbrev pub programs_from : Source → ℕ → ℕ → List Bool → World → Scanned
programs_from source t n [] w = record { world = w; faulted = []; faults = [] }
programs_from source t n (true ∷ flags) w = with_flag true (programs_from source t (n + 1) flags w)
programs_from source t n (false ∷ flags) w = after_run (run_program source n t w) (programs_from source t (n + 1) flags)
