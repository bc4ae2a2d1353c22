-- Code that is made of a program's frame is the program's.
use Rattle.std.proofs.Common.{◌≡◌, ◌∙◌, ap, sym, subst, refl, ℕ, ◌+◌, List, [], ◌∷◌, ◌++◌, map, length, Some, slice_get}
use Rattle.st_tree.specs.Alike as alike
use Rattle.logic_source.specs.Source.{PlainRoutine, Source, global_cells}
use Rattle.logic_source.specs.Worlds.{World, run_program}
use Rattle.logic_source.specs.Paths.{paths_rule, type_paths}
use Rattle.logic_cells.specs.Cells.{PlainCells}
use Rattle.plant_types.specs.Values.{Path}
use Rattle.logic_walk.specs.declared.frame.Frame.{Frame}
use Rattle.logic_walk.specs.Frames.{frame_paths}
use Rattle.logic_walk.specs.Walks.{run_frame}
use Rattle.logic_frames.specs.Frames.{program_base}
use Rattle.logic_frames.specs.Stands.{StandFor}
use Rattle.acc_vm.specs.Machine.{Over}
use Rattle.acc_vm.specs.Codes.{PlainCode, run_of}
use Rattle.vm_programs.specs.CodegenCodes.{paths_at}
use Rattle.vm_programs.specs.Codes.{IsCodeOf}
use Rattle.vm_logic.specs.Runs.{paths_below, paths_in, EndsAsProgram}
use Rattle.vm_logic.proofs.Placed.{agrees}
use Rattle.vm_logic.proofs.Spots.{many_below}

module _ (source : Source) (order : List ℕ) (frames : List Frame) (n : ℕ) (p : PlainRoutine) (at : slice_get source.programs n ≡ Some p) (have_paths : frame_paths frames (length frames) (length order + n) ≡ paths_rule (type_paths source.blocks) p)
    (cost : ℕ) (code : PlainCode) (is : IsCodeOf frames (global_cells source) (length order + n) (program_base source n) cost code) where
  -- it has as many paths as the program
  pub as_many_paths : code.paths ≡ length (paths_in source n)
  as_many_paths = is.paths ∙ ap (λ (l : List Path). length l) have_paths ∙ sym (many_below source.blocks p) ∙ ap (λ found. length (paths_below source.blocks found)) (sym at)

  names_are : paths_at frames (length order + n) (p.name ∷ []) ≡ paths_in source n
  names_are = ap (map (λ (path : Path). path ++ p.name ∷ [])) have_paths ∙ ap (paths_below source.blocks) (sym at)

  abbrev FrameAgrees : ℕ → PlainCells → World → Type 0
  FrameAgrees t cells w =
      alike.Agree (λ w c. StandFor source c w) (run_program source n t w) (run_frame t (global_cells source) frames (length frames) (length order + n) (program_base source n) (p.name ∷ []) cells)

  -- from cells where the frame agrees with the program it ends as the program does
  pub ends_as_program : (t : ℕ) (cells : PlainCells) (w : World) → FrameAgrees t cells w → EndsAsProgram source n t code cells w
  ends_as_program t cells w agree =
      let run = is.runs t (p.name ∷ []) cells in
      let result = run_frame t (global_cells source) frames (length frames) (length order + n) (program_base source n) (p.name ∷ []) cells in
      record {
        result = result;
        left = run.0;
        runs = subst (λ names. run_of t names code cells ≡ Over result run.0) names_are run.1;
        agrees = agrees source (run_program source n t w) result result refl agree;
      }
