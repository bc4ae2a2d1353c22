-- What lasts while levels are gathered.
use Rattle.std.proofs.Common.{◌≡◌, ℕ, List, length, refl, ◌∙◌, arith}
use Rattle.plant_types.specs.declared.values.Trap.{Trap}
use Rattle.st_tree.specs.Meaning.{Spot}
use Rattle.plant_types.specs.Values.{Path}
use Rattle.acc_vm.specs.Codes.{SameShape}
use Rattle.vm_slices.specs.Parts.{PlainPart}
use Rattle.slice_store.specs.Level.{Stored}
use Rattle.slice_store.specs.Splits.{CanSplit}
use Rattle.level_jobs.specs.Gathers.{GathersLevels, no_level, next_level}

-- the cells have the same shape, and there are as many flags
pub shape_lasts : (paths : ℕ → List Path) (parts : List PlainPart) (levels : List ℕ) (start : Stored) (k : ℕ) (end : Stored) (faults : List (ℕ × (Spot × Trap))) → GathersLevels paths parts levels start k end faults
    → SameShape end.cells start.cells × (length end.faulted ≡ length start.faulted)
shape_lasts paths parts levels start k end faults no_level = (record { values = refl; clocks = refl }, refl)
shape_lasts paths parts levels start k end faults (next_level {k = m} {old = old} {new = new} {faults = first} {here = here} before level) =
    let was = shape_lasts paths parts levels start m old first before in
    let now = level.taken.shape in
    (record { values = now.values ∙ was.0.values; clocks = now.clocks ∙ was.0.clocks }, level.taken.flags ∙ was.1)

pub can_again : (parts : List PlainPart) (levels : List ℕ) (level : ℕ) (old new : Stored) → SameShape new.cells old.cells → length new.faulted ≡ length old.faulted
    → CanSplit parts levels level old.cells (length old.faulted) → CanSplit parts levels level new.cells (length new.faulted)
can_again parts levels level old new shape flags can = record {
  levelled = can.levelled;
  flagged = flags ∙ can.flagged;
  few = can.few;
  inside = λ p part at. record {
    slots = λ i s there. let below = (can.inside p part at).slots i s there in omega (arith, below, shape.values);
    clocks = λ i k there. let below = (can.inside p part at).clocks i k there in omega (arith, below, shape.clocks);
  };
  apart = can.apart;
  clocks_apart = can.clocks_apart;
}
