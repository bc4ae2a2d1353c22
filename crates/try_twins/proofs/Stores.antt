-- Stores of a source's programs.
use Rattle.std.proofs.Common.{◌≡◌, ◌<◌, ℕ, List, length, ap, sym, subst, arith}
use Rattle.logic_source.specs.Source.{Source}
use Rattle.vm_slices.specs.Parts.{PlainPart}
use Rattle.slice_store.specs.Level.{Stored}
use Rattle.slice_store.specs.Splits.{CanSplit}
use Rattle.level_scans.specs.Levels.{PlainLevelled, AreLevelsOf}

-- what can be split by parts and levels can be by others that are the same
pub can_by : (l : PlainLevelled) (level : ℕ) (store : Stored) (parts : List PlainPart) (levels : List ℕ) → parts ≡ l.parts → levels ≡ l.levels
    → CanSplit l.parts l.levels level store.cells (length store.faulted) → CanSplit parts levels level store.cells (length store.faulted)
can_by l level store parts levels parts_is levels_is can =
    subst (λ (p : List PlainPart). CanSplit p levels level store.cells (length store.faulted)) (sym parts_is)
    (subst (λ (n : List ℕ). CanSplit l.parts n level store.cells (length store.faulted)) (sym levels_is) can)

-- each program has a level
pub level_is_there : (source : Source) (l : PlainLevelled) → AreLevelsOf source l → (levels : List ℕ) → levels ≡ l.levels → (p : ℕ) → p < length source.programs → p < length levels
level_is_there source l is levels same p there =
    let planned = is.plan.plan.one_each in
    let told = is.plan.are.one_each in
    let coded = is.are.one_each in
    let many = ap length same in
    omega (arith, planned, told, coded, many, there)
