-- Gathered levels in turn are the levels of the programs' codes in turn.
use Rattle.std.proofs.Common.{◌≡◌, ℕ, suc, List, length, refl, ◌∙◌, subst}
use Rattle.plant_types.specs.declared.values.Trap.{Trap}
use Rattle.st_tree.specs.Meaning.{Spot}
use Rattle.plant_types.specs.Values.{Path}
use Rattle.acc_vm.specs.Codes.{PlainCode}
use Rattle.vm_slices.specs.Parts.{PlainPart}
use Rattle.level_runs.specs.Stores.{in_order}
use Rattle.level_runs.specs.Levels as order
use Rattle.level_runs.specs.Levels.{RunsLevels, TakesLevel, IsAsInOrder}
use Rattle.level_plan.specs.Plans.{last_of}
use Rattle.level_runs.specs.Accesses.{HaveOwnCells}
use Rattle.level_runs.specs.Plans.{IsPlanOf}
use Rattle.level_runs.specs.Programs.{programs_at}
use Rattle.level_runs.proofs.Planned as planned
use Rattle.slice_store.specs.Level.{Stored}
use Rattle.slice_store.specs.Splits.{ArePartsOf}
use Rattle.level_jobs.specs.Gathers.{GathersLevels, no_level, next_level, midway}
use Rattle.level_jobs.proofs.Taken.{level_taken}

module _ (paths : ℕ → List Path) (codes : List PlainCode) (parts : List PlainPart) (levels : List ℕ) (are : ArePartsOf codes parts) (start : Stored) where
  in_turn : (k : ℕ) (end : Stored) (faults : List (ℕ × (Spot × Trap))) → GathersLevels paths parts levels start k end faults
      → (end.moment ≡ start.moment) × RunsLevels (programs_at start.moment paths codes levels) (midway start) k (midway end) faults
  in_turn k end faults no_level = (refl, order.no_level)
  in_turn k end faults (next_level {k = m} {old = old} {new = new} {faults = first} {here = here} before level) =
      let was = in_turn m old first before in
      let takes = subst (λ moment. TakesLevel (programs_at moment paths codes levels) (suc m) (midway old) (midway new) here) was.0 (level_taken paths codes parts levels (suc m) old new here are level) in
      (level.moment ∙ was.0, order.next_level was.1 takes)

  pub as_in_order : (globals : ℕ) → IsPlanOf globals codes levels → HaveOwnCells globals codes → (end : Stored) (faults : List (ℕ × (Spot × Trap))) → length start.faulted ≡ length codes
      → GathersLevels paths parts levels start (last_of levels) end faults
      → IsAsInOrder (in_order (programs_at start.moment paths codes levels).run 0 start.faulted start.cells) (midway end) faults
  as_in_order globals is own end faults many gathers =
      planned.as_in_order globals codes is.accesses levels is.are own is.plan start.moment paths (midway start) (midway end) faults many (in_turn (last_of levels) end faults gathers).1
