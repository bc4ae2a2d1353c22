use Rattle.std.proofs.Common.{◌≡◌, ℕ, [], List}
use Rattle.std.specs.Prelude.{All}
use Rattle.std.specs.Arc.{arc_value}
use Rattle.plant_types.specs.Values.{Path}
use Rattle.acc_vm.specs.Codes.{PlainCode}
use Rattle.slice_store.specs.Splits.{ArePartsOf}
use Rattle.level_jobs.specs.Gathers.{GathersLevels}
use Rattle.level_jobs.specs.Spotted.{HasItsPath, spotted}
use Rattle.level_jobs.proofs.running.run_in_turn.Given as goal

abbrev pub invariant-loop-below : goal.invariant-loop-below
invariant-loop-below g l = record {
  gathered : l.store.out ≡ [];
  levels : (paths : ℕ → List Path) → GathersLevels paths (arc_value l.parts) l.levels l.fn.store l.below l.store (spotted paths l.faults.items);
  paths : (codes : List PlainCode) → ArePartsOf codes (arc_value l.parts) → All (HasItsPath codes) l.faults.items;
  counted : g.C.Crew.faulted l.crew ≡ g.C.Crew.faulted l.fn.crew;
}
