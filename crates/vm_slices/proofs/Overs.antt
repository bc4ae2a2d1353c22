-- A run that goes as one that is over is over.
use Rattle.std.proofs.Common.{◌≡◌, ℕ, List, refl, subst, Ok, Err, Result}
use Rattle.st_tree.specs.Meaning.{Ran, Done, Trapped}
use Rattle.logic_cells.specs.declared.stop.Stop.{Stop}
use Rattle.logic_cells.specs.Cells.{PlainCells}
use Rattle.plant_types.specs.Values.{Path}
use Rattle.logic_cells.specs.Runs.{ended}
use Rattle.acc_vm.specs.Machine.{Run, Over, Unfinished, Stuck}
use Rattle.acc_vm.specs.Codes.{PlainCode, run_of}
use Rattle.vm_slices.specs.Alike.{EndAlike, GoAlike}
use Rattle.vm_slices.specs.Parts.{PlainPart, IsPartOf, HasPart, PartAfter, loaded}
use Rattle.vm_slices.specs.Runs.{RunsWhole}
use Rattle.vm_slices.proofs.Carried.{part_runs}

record Ended (R : PlainCells → PlainCells → Type 0) (names : List Path) (o : Result (Unit {0}) Stop) (v : PlainCells) (r : Ran PlainCells) : Type 0 where
  w : PlainCells
  is : r ≡ ended names o w
  related : R w v

ended_as : (R : PlainCells → PlainCells → Type 0) (names : List Path) (o : Result (Unit {0}) Stop) (v : PlainCells) (r : Ran PlainCells) → EndAlike R r (ended names o v) → Ended R names o v r
ended_as R names (Ok u) v (Done w) e = record { w = w; is = refl; related = e }
ended_as R names (Err stop) v (Done w) e = absurd e
ended_as R names (Ok u) v (Trapped w spot trap) e = absurd e
ended_as R names (Err stop) v (Trapped w spot trap) e = record { w = w; is = λ i. Trapped w (e.1 i) (e.2 i); related = e.0 }

record Overs (R : PlainCells → PlainCells → Type 0) (names : List Path) (o : Result (Unit {0}) Stop) (v : PlainCells) (left : ℕ) (a : Run) : Type 0 where
  w : PlainCells
  is : a ≡ Over (ended names o w) left
  related : R w v

over_as : (R : PlainCells → PlainCells → Type 0) (names : List Path) (o : Result (Unit {0}) Stop) (v : PlainCells) (left : ℕ) (a : Run) → GoAlike R a (Over (ended names o v) left) → Overs R names o v left a
over_as R names o v left (Over r rest) e = let x = ended_as R names o v r e.0 in record { w = x.w; is = λ i. Over (x.is i) (e.1 i); related = x.related }
over_as R names o v left Unfinished e = absurd e
over_as R names o v left Stuck e = absurd e

-- how a part's code ran tells how the code runs from all cells
pub runs_whole : (whole : PlainCode) (part : PlainPart) → IsPartOf whole part → (t : ℕ) (names : List Path) (cells : PlainCells) → HasPart part cells → (result : Result (Unit {0}) Stop) (small : PlainCells) (left : ℕ)
    → run_of t names part.code (loaded part cells) ≡ Over (ended names result small) left → RunsWhole t names whole part cells result small left
runs_whole whole part is t names cells has result small left ran =
    let R = PartAfter whole part cells in
    let x = over_as R names result small left (run_of t names whole cells) (subst (GoAlike R (run_of t names whole cells)) ran (part_runs whole part is t names cells has)) in
    record { after = x.w; run = x.is; is = x.related }
