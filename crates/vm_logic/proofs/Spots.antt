-- The paths of a program by its own numbers, among those of the source.
use Rattle.std.proofs.Common.{◌≡◌, ◌∙◌, ap, sym, refl, ℕ, ◌+◌, ◌<◌, ◌≤◌, List, [], ◌∷◌, ◌++◌, length, get_or, Option, Some, None, slice_get, arith}
use Rattle.std.proofs.lemmas.List.{length-map, get_or-map}
use Rattle.plant_types.specs.declared.values.Place.{Place}
use Rattle.logic_source.specs.Source.{PlainRoutine, Source}
use Rattle.plant_types.specs.Values.{Path}
use Rattle.logic_source.specs.Paths.{instance_paths, paths_rule, type_paths, paths_of}
use Rattle.logic_cells.specs.Runs.{spot_of}
use Rattle.vm_logic.specs.Bases.{program_paths_base}
use Rattle.vm_logic.specs.Runs.{place_spot, placed_from, paths_below, paths_in}
use Rattle.vm_logic.proofs.Placed.{placed, paths_end}

-- a program has as many paths as its routine
pub many_below : (blocks : List PlainRoutine) (p : PlainRoutine) → length (paths_below blocks (Some p)) ≡ length (paths_rule (type_paths blocks) p)
many_below blocks p = length-map (paths_rule (type_paths blocks) p) (λ path. path ++ p.name ∷ [])

-- the path of a number in a program is one of the source, counted from the program's first one
record IsMoved (source : Source) (own : List Path) (n m : ℕ) : Type 0 where
  pub inside : program_paths_base source n + m < length (paths_of source)
  pub path_is : get_or own m [] ≡ get_or (paths_of source) (program_paths_base source n + m) []

moved_in : (source : Source) (n m : ℕ) (at : Option PlainRoutine) → slice_get source.programs n ≡ at → m < length (paths_below source.blocks at) → IsMoved source (paths_below source.blocks at) n m
moved_in source n m None is less = absurd (omega (arith, less))
moved_in source n m (Some p) is less =
    let own = paths_rule (type_paths source.blocks) p in
    let many = many_below source.blocks p in
    let short : m < length own = omega (arith, less, many) in
    let place = placed source n p m is short in
    record {
      inside = place.inside;
      path_is = get_or-map (λ path. path ++ p.name ∷ []) own m [] [] short ∙ sym place.path_is;
    }

moved : (source : Source) (n m : ℕ) → m < length (paths_in source n) → IsMoved source (paths_in source n) n m
moved source n m less = moved_in source n m (slice_get source.programs n) refl less

-- it is within the source's paths
pub path_of_source : (source : Source) (n path : ℕ) → path < length (paths_in source n) → program_paths_base source n + path < length (paths_of source)
path_of_source source n path less = (moved source n path less).inside

-- a place by the program's paths is the same spot as by those of the source
pub spot_of_source : (source : Source) (n : ℕ) (place : Place) → place.path < length (paths_in source n) → spot_of (paths_in source n) place ≡ place_spot source (placed_from (program_paths_base source n) place)
spot_of_source source n place less =
    let same = (moved source n place.path less).path_is in
    λ i. record { path = same i; statement = place.statement }

-- a program's paths end no later than those of the source
pub paths_within : (source : Source) (n : ℕ) (p : PlainRoutine) → slice_get source.programs n ≡ Some p → program_paths_base source n + length (paths_in source n) ≤ program_paths_base source (length source.programs)
paths_within source n p at =
    let blocks = source.blocks in
    let below = instance_paths (type_paths blocks) p p.instances in
    let many : length (paths_in source n) ≡ length below + 1 = ap (λ found. length (paths_below blocks found)) at ∙ many_below blocks p ∙ omega arith in
    let last = (placed source n p (length below) at (omega arith)).inside in
    let all = paths_end source in
    omega (arith, many, last, all)
