-- Faults by the paths of the source are those by the programs' own.
use Rattle.std.proofs.Common.{◌≡◌, ◌∙◌, ℕ, ◌+◌, ◌<◌, List, [], ◌∷◌, length, map, All, refl, sym, ap}
use Rattle.std.proofs.lemmas.List.Elements.{All-head, All-tail, All-map, All-same, All-weaker}
use Rattle.plant_types.specs.declared.values.Place.{Place}
use Rattle.plant_types.specs.declared.values.Trap.{Trap}
use Rattle.st_tree.specs.Meaning.{Spot}
use Rattle.logic_source.specs.Source.{Source}
use Rattle.logic_source.specs.Paths.{paths_of}
use Rattle.logic_cells.specs.Runs.{spot_of}
use Rattle.level_jobs.specs.declared.fault.ProgramFault.{ProgramFault}
use Rattle.level_jobs.specs.Spotted.{spotted}
use Rattle.vm_carry.specs.Bases.{program_paths_base}
use Rattle.vm_carry.specs.Runs.{paths_in, place_spot, placed_from}
use Rattle.level_scans.specs.Faults.{IsOfProgram, placed_fault}

-- a program's places are the same spots by the paths of the source
abbrev pub SameSpots : Source → Type 0
SameSpots source = (n : ℕ) (place : Place) → place.path < length (paths_in source n) → spot_of (paths_in source n) place ≡ place_spot source (placed_from (program_paths_base source n) place)

pub same_faults : (source : Source) → SameSpots source → (faults : List ProgramFault) → All (λ f. IsOfProgram source f) faults
    → map (λ (f : Place × Trap). (place_spot source f.0, f.1)) (map (placed_fault source) faults) ≡ map (λ (f : ℕ × (Spot × Trap)). f.1) (spotted (paths_in source) faults)
same_faults source same [] all = refl
same_faults source same (f ∷ faults) all =
    let here = All-head (λ f. IsOfProgram source f) f faults all in
    ap (λ (x : Spot). (x, f.stop.trap) ∷ map (λ (f : Place × Trap). (place_spot source f.0, f.1)) (map (placed_fault source) faults)) (sym (same f.program f.stop.place here.path))
    ∙ ap (λ (l : List (Spot × Trap)). (spot_of (paths_in source f.program) f.stop.place, f.stop.trap) ∷ l) (same_faults source same faults (All-tail (λ f. IsOfProgram source f) f faults all))

-- each place has a path of the source
pub placed_within : (source : Source) → ((n path : ℕ) → path < length (paths_in source n) → program_paths_base source n + path < length (paths_of source))
    → (faults slice : List ProgramFault) (placed : List (Place × Trap)) → placed ≡ map (placed_fault source) slice → slice ≡ faults → All (λ f. IsOfProgram source f) faults
    → All (λ (f : Place × Trap). f.0.path < length (paths_of source)) placed
placed_within source within faults slice placed is same all =
    let inside : Place × Trap → Type 0 = λ f. f.0.path < length (paths_of source) in
    All-same inside placed (map (placed_fault source) faults) (is ∙ ap (map (placed_fault source)) same)
    (All-map inside (placed_fault source) faults (All-weaker (λ f. IsOfProgram source f) (λ f. inside (placed_fault source f)) (λ f is. within f.program f.stop.place.path is.path) faults all))
