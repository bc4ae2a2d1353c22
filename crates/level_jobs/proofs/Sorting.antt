-- The faults of all levels, by the numbers of their programs.
use Rattle.std.proofs.Common.{◌≡◌, ℕ, List, [], ◌∷◌, length, ap, arith}
use Rattle.std.specs.List.Sorted.{IsNonDecreasingBy}
use Rattle.std.proofs.lemmas.List.{length-map, get_or-map}
use Rattle.std.proofs.lemmas.List.Sorted.{IsPermutation-map}
use Rattle.plant_types.specs.declared.values.Trap.{Trap}
use Rattle.st_tree.specs.Meaning.{Spot}
use Rattle.plant_types.specs.Values.{Path}
use Rattle.acc_vm.specs.Codes.{PlainCode}
use Rattle.vm_slices.specs.Parts.{PlainPart}
use Rattle.level_runs.specs.Stores.{in_order}
use Rattle.level_runs.specs.Levels.{IsAsInOrder}
use Rattle.level_runs.specs.Accesses.{HaveOwnCells}
use Rattle.level_runs.specs.Plans.{IsPlanOf}
use Rattle.level_runs.specs.Programs.{programs_at}
use Rattle.slice_store.specs.Level.{Stored}
use Rattle.slice_store.specs.Splits.{ArePartsOf}
use Rattle.level_jobs.specs.Gathers.{GathersAll, EndsInOrder, midway}
use Rattle.level_jobs.specs.Spotted.{spotted, spotted_fault}
use Rattle.level_jobs.specs.declared.fault.ProgramFault.{ProgramFault}
use Rattle.level_jobs.proofs.Turns.{as_in_order}

-- faults rise by their programs' numbers with their spots as without
rising_spots : (paths : ℕ → List Path) (faults : List ProgramFault) → IsNonDecreasingBy (λ (fault : ProgramFault). fault.program) faults
    → IsNonDecreasingBy (λ (told : ℕ × (Spot × Trap)). told.0) (spotted paths faults)
rising_spots paths [] rising i j d le lt = absurd (omega (arith, lt))
rising_spots paths (x ∷ xs) rising i j d le lt =
    let many : length (spotted paths (x ∷ xs)) ≡ length (x ∷ xs) = length-map (x ∷ xs) (spotted_fault paths) in
    let first = ap (λ (told : ℕ × (Spot × Trap)). told.0) (get_or-map (spotted_fault paths) (x ∷ xs) i x d (omega (arith, le, lt, many))) in
    let second = ap (λ (told : ℕ × (Spot × Trap)). told.0) (get_or-map (spotted_fault paths) (x ∷ xs) j x d (omega (arith, lt, many))) in
    let up = rising i j x le (omega (arith, lt, many)) in
    omega (arith, first, second, up)

-- the levels of the plan, gathered in turn, end as program order does, and so do their faults by number
pub ends_in_order : (paths : ℕ → List Path) (globals : ℕ) (codes : List PlainCode) (parts : List PlainPart) (levels : List ℕ) → ArePartsOf codes parts → IsPlanOf globals codes levels → HaveOwnCells globals codes
    → (start end : Stored) (faults : List ProgramFault) → length start.faulted ≡ length codes → GathersAll parts levels start end faults
    → EndsInOrder (in_order (programs_at start.moment paths codes levels).run 0 start.faulted start.cells) end (spotted paths faults)
ends_in_order paths globals codes parts levels are is own start end faults many all =
    let order : IsAsInOrder (in_order (programs_at start.moment paths codes levels).run 0 start.faulted start.cells) (midway end) (spotted paths all.told)
    = as_in_order paths codes parts levels are start globals is own end (spotted paths all.told) many (all.gathers paths) in
    record {
      cells = order.store;
      faulted = order.faulted;
      faults = order.sorted (spotted paths faults) (IsPermutation-map (spotted_fault paths) all.told faults all.same) (rising_spots paths faults all.rising);
    }
