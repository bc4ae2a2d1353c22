-- The cells before the first scan, program by program.
use Rattle.std.proofs.Common.{◌≡◌, ◌∙◌, ap, sym, ℕ, suc, ◌+◌, ◌-◌, ◌<◌, List, [], ◌∷◌, ◌++◌, length, arith}
use Rattle.logic_source.specs.Source.{Source, global_cells}
use Rattle.logic_source.specs.Seats.{program_values_base, program_clocks_base}
use Rattle.logic_source.specs.Layout.{cell_paths}
use Rattle.logic_cells.specs.declared.clock.Standard.{Standard}
use Rattle.logic_cells.specs.Cells.{PlainCells, zero_cells}
use Rattle.logic_walk.specs.declared.frame.Base.{Base}
use Rattle.logic_walk.specs.declared.frame.Frame.{Frame}
use Rattle.logic_walk.specs.Starts.{frame_begun}
use Rattle.logic_frames.specs.Opening.{cells_of, programs_started, opening_cells}
use Rattle.vm_logic.specs.Framed.{all_standards}

abbrev base : ℕ → ℕ → Base
base values clocks = record { values = values; clocks = clocks }

-- a table of one frame
pub one_frame : (table table' : List Frame) (frame : Frame) → table ≡ [] → table' ≡ table ++ frame ∷ [] → table' ≡ frame ∷ []
one_frame table table' frame none pushed = pushed ∙ ap (λ l. l ++ frame ∷ []) none

module _ (source : Source) (order : List ℕ) (frames : List Frame) where
  -- one more program
  pub started_more : (n i globals place values clocks : ℕ) (cells cells' last : PlainCells) → i < n → globals ≡ global_cells source → place ≡ length order + i → values ≡ program_values_base source i → clocks ≡ program_clocks_base source i
      → cells' ≡ frame_begun globals frames (length frames) place (record { values = values; clocks = clocks }) cells → programs_started source order frames (n - i) i cells ≡ last → programs_started source order frames (n - (i + 1)) (i + 1) cells' ≡ last
  started_more n i globals place values clocks cells cells' last less globals_are place_is values_are clocks_are made before =
      let step : n - i ≡ suc (n - (i + 1)) = omega (arith, less) in
      ap (programs_started source order frames (n - (i + 1)) (i + 1)) (made ∙ (λ j. frame_begun (globals_are j) frames (length frames) (place_is j) (base (values_are j) (clocks_are j)) cells))
      ∙ ap (λ m. programs_started source order frames m i cells) (sym step) ∙ before

  -- all of them
  pub started_all : (n i : ℕ) (cells last : PlainCells) → n - i ≡ 0 → programs_started source order frames (n - i) i cells ≡ last → cells ≡ last
  started_all n i cells last none before = ap (λ m. programs_started source order frames m i cells) (sym none) ∙ before

  -- the cells of FALSE and 0, the globals' initial values, and those of each program
  pub opened : (first : Frame) (start : List Frame) (globals all : ℕ) (standards : List Standard) (zeros begun cells : PlainCells) → start ≡ first ∷ [] → globals ≡ global_cells source → all ≡ length (cell_paths source) → standards ≡ all_standards source
      → zeros ≡ zero_cells all standards → begun ≡ frame_begun globals start (length start) 0 (record { values = 0; clocks = 0 }) zeros → cells ≡ programs_started source order frames (length source.programs) 0 begun → cells ≡ opening_cells source order first frames
  opened first start globals all standards zeros begun cells start_is globals_are all_are standards_are zeros_are begun_is cells_are =
      let zeros_of : zeros ≡ cells_of source = zeros_are ∙ (λ j. zero_cells (all_are j) (standards_are j)) in
      cells_are ∙ ap (programs_started source order frames (length source.programs) 0) (begun_is ∙ (λ j. frame_begun (globals_are j) (start_is j) (length (start_is j)) 0 (base 0 0) (zeros_of j)))
