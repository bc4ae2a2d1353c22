-- A run of a program's frame, by the numbers that the code has.
use Rattle.std.proofs.Common.{◌≡◌, ◌∙◌, ap, sym, subst, ℕ, ◌+◌, ◌-◌, ◌<◌, ◌≤◌, List, [], ◌∷◌, ◌++◌, length, get_or, Some, arith}
use Rattle.std.specs.Prelude.{slice_get, Result, IfErr}
use Rattle.std.proofs.lemmas.Option.{slice_get-get_or}
use Rattle.st_tree.specs.Meaning.{Ran}
use Rattle.st_tree.specs.Alike as alike
use Rattle.logic_source.specs.Source.{PlainRoutine, Source, global_cells}
use Rattle.plant_types.specs.Values.{Path}
use Rattle.logic_source.specs.Worlds.{World, globals_routine}
use Rattle.logic_source.specs.Paths.{paths_rule, type_paths, paths_of, path_text}
use Rattle.logic_source.specs.Seats.{program_values_base, program_clocks_base}
use Rattle.logic_cells.specs.declared.stop.Stop.{Stop}
use Rattle.logic_cells.specs.Cells.{PlainCells}
use Rattle.logic_cells.specs.Runs.{ended}
use Rattle.logic_walk.specs.declared.frame.Frame.{Frame}
use Rattle.logic_walk.specs.Frames.{frame_paths}
use Rattle.logic_walk.specs.Walks.{run_frame, under}
use Rattle.logic_walk.specs.Paths.{path_suffix}
use Rattle.logic_frames.specs.Frames.{program_base}
use Rattle.logic_frames.specs.Stands.{StandFor}
use Rattle.vm_logic.specs.Bases.{program_paths_base, AreBases}
use Rattle.vm_logic.specs.Runs as runs
use Rattle.vm_logic.proofs.Bases.{paths_next}
use Rattle.vm_logic.proofs.Placed.{run_agrees, run_within, run_fits, text_placed}

-- the program of a number that is there
abbrev pub the_program : Source → ℕ → PlainRoutine
the_program source n = get_or source.programs n (globals_routine source)

pub is_there : (source : Source) (n : ℕ) → n < length source.programs → slice_get source.programs n ≡ Some (the_program source n)
is_there source n there = slice_get-get_or source.programs n (globals_routine source) there

abbrev pub its_paths : Source → ℕ → List Path
its_paths source n = paths_rule (type_paths source.blocks) (the_program source n)

module _ (source : Source) (order : List ℕ) (frames : List Frame) (n : ℕ) (there : n < length source.programs) (have_paths : frame_paths frames (length frames) (length order + n) ≡ its_paths source n) where
  module _ (table : List Frame) (place : ℕ) (table_is : table ≡ frames) (place_is : place ≡ length order + n) where
    -- the paths of its frame, by the numbers that the code has
    pub paths_are : frame_paths table (length table) place ≡ its_paths source n
    paths_are =
        let same : frame_paths table (length table) place ≡ frame_paths frames (length frames) (length order + n) = λ j. frame_paths (table_is j) (length (table_is j)) (place_is j) in
        same ∙ have_paths

    module _ (result : Result (Unit {0}) Stop) (inside : IfErr result (λ stop. stop.place.path < length (frame_paths table (length table) place))) where
      its : IfErr result (λ stop. stop.place.path < length (its_paths source n))
      its = subst (λ (l : List Path). IfErr result (λ stop. stop.place.path < length l)) paths_are inside

      -- a trap's path number fits where all do
      pub fits_in : (base top : ℕ) → base ≡ program_paths_base source n → program_paths_base source (length source.programs) < top → IfErr result (λ stop. base + stop.place.path < top)
      fits_in base top base_is all = subst (λ b. IfErr result (λ stop. b + stop.place.path < top)) (sym base_is) (run_fits source n (the_program source n) (is_there source n there) result top its all)

      -- a trap's place has a path of the source
      pub within_is : (base : ℕ) → base ≡ program_paths_base source n → runs.IsWithin source (runs.walked_by base result)
      within_is base base_is = subst (λ b. runs.IsWithin source (runs.walked_by b result)) (sym base_is) (run_within source n (the_program source n) (is_there source n there) result its)

      -- it ends as the program does in the world
      pub ran_is : (t globals values clocks base : ℕ) (old new : PlainCells) (r : Ran World) → globals ≡ global_cells source → values ≡ program_values_base source n → clocks ≡ program_clocks_base source n → base ≡ program_paths_base source n
          → ((path : Path) → under path (ended (frame_paths table (length table) place) result new) ≡ run_frame t globals table (length table) place (record { values = values; clocks = clocks }) path old)
          → alike.Agree (λ w c. StandFor source c w) r (run_frame t (global_cells source) frames (length frames) (length order + n) (program_base source n) ((the_program source n).name ∷ []) old)
          → runs.Agree source r (runs.ran source (runs.walked_by base result) new)
      ran_is t globals values clocks base old new r globals_are values_are clocks_are base_is ran agree =
          let path = (the_program source n).name ∷ [] in
          let same : run_frame t globals table (length table) place (record { values = values; clocks = clocks }) path old ≡ run_frame t (global_cells source) frames (length frames) (length order + n) (program_base source n) path old =
          λ j. run_frame t (globals_are j) (table_is j) (length (table_is j)) (place_is j) (record { values = values_are j; clocks = clocks_are j }) path old
          in
          let q = run_frame t (global_cells source) frames (length frames) (length order + n) (program_base source n) path old in
          subst (λ b. runs.Agree source r (runs.ran source (runs.walked_by b result) new)) (sym base_is)
          (run_agrees source n (the_program source n) (is_there source n there) r result new q its (ap (λ l. under path (ended l result new)) (sym paths_are) ∙ ran path ∙ same) agree)

-- a path number of a program, counted from the program's first one
pub below_less : (source : Source) (row : List ℕ) (n path base : ℕ) → (there : n < length source.programs) → AreBases (program_paths_base source) (length source.programs) row → get_or row n 0 ≤ path → path < get_or row (n + 1) 0 → base ≡ program_paths_base source n → path - base < length (its_paths source n)
below_less source row n path base there bases begins ends base_is =
    let here = bases.each n (omega (arith, there)) in
    let next = bases.each (n + 1) (omega (arith, there)) in
    let on = paths_next source n (the_program source n) (is_there source n there) in
    omega (arith, begins, ends, here, next, on, base_is)

-- the text of its path
pub text_below : (source : Source) (row : List ℕ) (n path base : ℕ) → (there : n < length source.programs) → AreBases (program_paths_base source) (length source.programs) row → get_or row n 0 ≤ path → path < get_or row (n + 1) 0 → base ≡ program_paths_base source n
    → path_text (get_or (paths_of source) path []) ≡ (the_program source n).name ++ path_suffix (get_or (its_paths source n) (path - base) [])
text_below source row n path base there bases begins ends base_is =
    let here = bases.each n (omega (arith, there)) in
    let sum : path ≡ program_paths_base source n + (path - base) = omega (arith, begins, here, base_is) in
    text_placed source n (the_program source n) (is_there source n there) (path - base) path (below_less source row n path base there bases begins ends base_is) sum
