-- A run of a program's code, by the run of its frame.
use Rattle.std.proofs.Common.{◌≡◌, ◌∙◌, ap, sym, subst, refl, ℕ, ◌<◌, ◌++◌, List, [], length, map}
use Rattle.std.specs.Prelude.{Result, Ok, Err, IfErr}
use Rattle.std.proofs.lemmas.List.{get_or-map}
use Rattle.st_tree.specs.Meaning.{Ran, Trapped}
use Rattle.logic_source.specs.Source.{Source}
use Rattle.logic_source.specs.Blocks.{AreBelow}
use Rattle.logic_cells.specs.declared.stop.Stop.{Stop}
use Rattle.logic_cells.specs.Cells.{PlainCells}
use Rattle.plant_types.specs.Values.{Path}
use Rattle.logic_cells.specs.Runs.{ended}
use Rattle.logic_walk.specs.declared.frame.Base.{Base}
use Rattle.logic_walk.specs.declared.frame.Frame.{Frame}
use Rattle.logic_walk.specs.Frames.{frame_paths}
use Rattle.logic_walk.specs.Walks.{run_frame, under}
use Rattle.logic_frames.specs.Frames.{IsFrames}
use Rattle.acc_vm.specs.Machine.{Over}
use Rattle.acc_vm.specs.Codes.{PlainCode, SameShape, run_of}
use Rattle.vm_programs.specs.CodegenCodes.{AreSteady, paths_at}
use Rattle.vm_programs.specs.Codes.{IsCodeOf, AreCodes, AllNamesFit}
use Rattle.vm_logic.specs.Sound.{IsSound}
use Rattle.vm_logic.specs.Runs.{HasCells}
use Rattle.vm_logic.proofs.Steady.{frames_are_steady}

-- the frames of a sound source are steady
pub sound_steady : (source : Source) (order : List ℕ) (frames : List Frame) → IsSound source → AreBelow source.blocks order → IsFrames source order frames → AreSteady frames
sound_steady source order frames sound below are =
    frames_are_steady sound.units sound.typed order frames (subst (λ (s : Source). AreBelow s.blocks order) sound.are_theirs below) (subst (λ (s : Source). IsFrames s order frames) sound.are_theirs are)

over_same : (a b : Ran PlainCells) (m n : ℕ) → Over a m ≡ Over b n → a ≡ b
over_same a b m n same = cc

-- a run whose paths go on from a path
under_ended : (path : Path) (paths : List Path) (result : Result (Unit {0}) Stop) (cells : PlainCells) → IfErr result (λ stop. stop.place.path < length paths)
    → under path (ended paths result cells) ≡ ended (map (λ (way : Path). way ++ path) paths) result cells
under_ended path paths (Ok u) cells inside = refl
under_ended path paths (Err stop) cells inside =
    ap (λ (p : Path). Trapped cells (record { path = p; statement = stop.place.statement }) stop.trap) (sym (get_or-map (λ (way : Path). way ++ path) paths stop.place.path [] [] inside))

module _ (frames : List Frame) (globals first : ℕ) (base : Base) (cost : ℕ) (code : PlainCode) (is : IsCodeOf frames globals first base cost code) (result : Result (Unit {0}) Stop) (inside : IfErr result (λ stop. stop.place.path < code.paths)) where
  -- a trap has a path of the frame
  pub path_inside : IfErr result (λ stop. stop.place.path < length (frame_paths frames (length frames) first))
  path_inside = subst (λ most. IfErr result (λ stop. stop.place.path < most)) is.paths inside

  -- the run ends as the frame does
  pub ends_as_frame : (t : ℕ) (old new : PlainCells) → ((names : List Path) → (left : ℕ) × (run_of t names code old ≡ Over (ended names result new) left))
      → (path : Path) → under path (ended (frame_paths frames (length frames) first) result new) ≡ run_frame t globals frames (length frames) first base path old
  ends_as_frame t old new ran path =
      let names = paths_at frames first path in
      let law = is.runs t path old in
      let run = ran names in
      let r = run_frame t globals frames (length frames) first base path old in
      under_ended path (frame_paths frames (length frames) first) result new path_inside ∙ over_same (ended names result new) r run.0 law.0 (sym run.1 ∙ law.1)

-- cells of the same shape have what the source has
pub shape_kept : (source : Source) (old new : PlainCells) → SameShape new old → HasCells source old → HasCells source new
shape_kept source old new same has = record { values = same.values ∙ has.values; clocks = same.clocks ∙ has.clocks }

-- what programs of equal parts name
pub names_same : (fs gs : List Frame) (a b first : ℕ) (values v clocks w costs s : List ℕ)
    → fs ≡ gs → a ≡ b → values ≡ v → clocks ≡ w → costs ≡ s → AllNamesFit fs a first values clocks costs → AllNamesFit gs b first v w s
names_same fs gs a b first values v clocks w costs s e1 e2 e3 e4 e5 h =
    subst (λ x. AllNamesFit x b first v w s) e1 (subst (λ x. AllNamesFit fs x first v w s) e2 (subst (λ x. AllNamesFit fs a first x w s) e3
    (subst (λ x. AllNamesFit fs a first values x s) e4 (subst (λ x. AllNamesFit fs a first values clocks x) e5 h))))

-- codes of equal parts
pub codes_same : (fs gs : List Frame) (a b c d : ℕ) (values v clocks w costs s : List ℕ) (codes : List PlainCode)
    → fs ≡ gs → a ≡ b → c ≡ d → values ≡ v → clocks ≡ w → costs ≡ s → AreCodes fs a c values clocks costs codes → AreCodes gs b d v w s codes
codes_same fs gs a b c d values v clocks w costs s codes e1 e2 e3 e4 e5 e6 h =
    subst (λ x. AreCodes x b d v w s codes) e1 (subst (λ x. AreCodes fs x d v w s codes) e2 (subst (λ x. AreCodes fs a x v w s codes) e3
    (subst (λ x. AreCodes fs a c x w s codes) e4 (subst (λ x. AreCodes fs a c values x s codes) e5 (subst (λ x. AreCodes fs a c values clocks x codes) e6 h)))))
