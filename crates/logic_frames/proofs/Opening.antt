-- The cells before the first scan stand for the world before it.
use Rattle.std.proofs.Common.{◌≡◌, ◌∙◌, ap, sym, subst, refl, arith, ℕ, pos, ◌+◌, List, [], ◌∷◌, map, length, slice_get}
use Rattle.std.specs.Prelude.{replicate}
use Rattle.logic_source.specs.Source.{Source, global_cells}
use Rattle.logic_source.specs.Blocks.{AreBelow, HasItsTypes, Declares}
use Rattle.plant_types.specs.Values.{Path}
use Rattle.logic_source.specs.Worlds.{routine_begun, begun, globals_routine, zero_world, opening}
use Rattle.logic_source.specs.Layout.{ClockAt, cell_paths, all_clocks, IsDistinctlyNamed}
use Rattle.logic_source.specs.Seats.{StandsFrom}
use Rattle.logic_cells.specs.Clocks.{clock_of}
use Rattle.logic_walk.specs.declared.frame.Base.{Base}
use Rattle.logic_walk.specs.declared.frame.Frame.{Frame}
use Rattle.logic_walk.specs.Starts.{frame_begun}
use Rattle.logic_walk.proofs.Beginning.{begun_is}
use Rattle.logic_frames.specs.Numbers.{HasItsNames, HasAllNames}
use Rattle.logic_frames.specs.Frames.{IsFrame, IsFrames}
use Rattle.logic_frames.specs.Stands.{standard_of, clock_in, StandFor}
use Rattle.logic_frames.specs.Opening.{cells_of, opening_cells}
use Rattle.logic_frames.proofs.Starts.{routine_starts, programs_begin}

zeros : (ps : List Path) → replicate (length ps) (pos 0) ≡ map (λ (p : Path). pos 0) ps
zeros [] = refl
zeros (p ∷ ps) = ap (λ l. pos 0 ∷ l) (zeros ps)

uncalled : (cs : List ClockAt) → map (λ standard. clock_of standard []) (map (λ (c : ClockAt). standard_of c.of) cs) ≡ map (clock_in zero_world) cs
uncalled [] = refl
uncalled (c ∷ cs) = ap (λ l. clock_of (standard_of c.of) [] ∷ l) (uncalled cs)

-- cells of FALSE and 0 stand for the world of FALSE and 0
cells_stand : (source : Source) → StandFor source (cells_of source) zero_world
cells_stand source = record { values_are = zeros (cell_paths source); clocks_are = uncalled (all_clocks source) }

nothing_stands : {A : Type 0} (all : List A) (base : ℕ) → StandsFrom all base []
nothing_stands all base i a at = absurd (cc)

module _ (source : Source) (order : List ℕ) (start : Frame) (frames : List Frame) (globals_are : IsFrame source order (globals_routine source) start) (are : IsFrames source order frames) (below : AreBelow source.blocks order) (types : HasItsTypes source)
    (named : IsDistinctlyNamed source) (names : HasAllNames source) where
  abbrev base : Base
  base = record { values = 0; clocks = 0 }

  globals_named : HasItsNames source (globals_routine source)
  globals_named = record { in_body = refl; in_starts = names.in_globals }

  none_declared : (n : ℕ) → Declares (globals_routine source) n → ⊥
  none_declared n declares = declares.1

  globals_begin : StandFor source (frame_begun (global_cells source) (start ∷ []) 1 0 base (cells_of source)) (begun source (globals_routine source) [] zero_world)
  globals_begin =
      subst (λ c. StandFor source c (begun source (globals_routine source) [] zero_world)) (sym (begun_is (global_cells source) (start ∷ []) 1 0 base (cells_of source) start (omega arith) refl))
      (routine_starts source order below named (globals_routine source) start (routine_begun source) (frame_begun (global_cells source) (start ∷ []) 0) globals_are globals_named
      (λ n declares. absurd (none_declared n declares)) [] base (nothing_stands (cell_paths source) 0) (nothing_stands (all_clocks source) 0) zero_world (cells_of source) (cells_stand source))

  pub opening_stands : StandFor source (opening_cells source order start frames) (opening source)
  opening_stands =
      programs_begin source order below named frames are types names source.programs 0 (λ j p at. ap (slice_get source.programs) (let same : 0 + j ≡ j = omega arith in same) ∙ at)
      (begun source (globals_routine source) [] zero_world) (frame_begun (global_cells source) (start ∷ []) 1 0 base (cells_of source)) globals_begin
