-- A gathered run is the run of its program's code from all cells.
use Rattle.std.proofs.Common.{◌≡◌, ℕ, List, Bool, ap, sym, ◌∙◌, inr}
use Rattle.std.specs.Prelude.{Result}
use Rattle.logic_cells.specs.Cells.{PlainCells}
use Rattle.plant_types.specs.Values.{Path}
use Rattle.logic_cells.specs.declared.stop.Stop.{Stop}
use Rattle.acc_vm.specs.Codes.{PlainCode, run_of}
use Rattle.vm_slices.specs.Slots.{Names}
use Rattle.vm_slices.specs.Parts.{IsPartOf, HasPart, loaded}
use Rattle.vm_slices.specs.Runs.{RunsWhole}
use Rattle.vm_slices.proofs.Overs.{runs_whole}
use Rattle.slice_store.specs.Starts.{Begun, Gives}
use Rattle.slice_store.specs.Level.{HasTaken}
use Rattle.slice_store.specs.Whole.{TookWhole}

-- what a job's code gives tells how its program's code runs from all cells
pub ran_whole : (names : List Path) (whole : PlainCode) (s : Begun) (cells : PlainCells) (result : Result (Unit {0}) Stop) (small : PlainCells) → IsPartOf whole s.part → HasPart s.part cells → s.cells ≡ loaded s.part cells
    → Gives s result small → (left : ℕ) × RunsWhole s.moment names whole s.part cells result small left
ran_whole names whole s cells result small is has from gives =
    let ran = gives.ran names in
    (ran.0, runs_whole whole s.part is s.moment names cells has result small ran.0 (ap (run_of s.moment names s.part.code) (sym from) ∙ ran.1))

pub took_whole : (names : List Path) (whole : PlainCode) (s : Begun) (old new : PlainCells) (faulted : List Bool) → IsPartOf whole s.part → HasPart s.part old → s.cells ≡ loaded s.part old
    → HasTaken s new faulted → TookWhole names whole s old new faulted
took_whole names whole s old new faulted is has from taken =
    let ran = ran_whole names whole s old taken.result taken.after is has from taken.gives in
    let x = ran.1 in
    record {
      result = taken.result;
      after = x.after;
      left = ran.0;
      run = x.run;
      kept = x.is.kept;
      values = λ slot writes.
          let named : Names whole.instrs slot = record { some = inr writes.some } in
          taken.values (is.slot_place slot) slot (is.written slot writes) (is.slots slot named) ∙ x.is.values (is.slot_place slot) slot (is.slots slot named);
      clocks = λ k named. taken.clocks (is.clock_place k) k (is.clocks k named) ∙ x.is.clocks (is.clock_place k) k (is.clocks k named);
      flag = taken.flag;
    }
