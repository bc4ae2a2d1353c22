-- A level whose runs come back in any order.
use Rattle.std.specs.Prelude.{◌≡◌, ℕ, ◌≤◌, ◌==◌, ◌↔◌, Bool, true, false, List, Some, is_some, slice_get, count_by, Contains}
use Rattle.std.specs.Option.{option_map}
use Rattle.std.specs.List.{filter_map}
use Rattle.level_runs.specs.Stores.{Programs}
use Rattle.level_runs.specs.Levels.{Midway, IsRun}

module _ {S K V Z E : Type 0} where
  -- a list has the number of each program that runs in a level, once and in any order
  pub record AreRunsOf (P : Programs S K V Z E) (k : ℕ) (faulted : List Bool) (runs : List ℕ) : Type 0 where
    pub each : (p : ℕ) → Contains runs p ↔ IsRun P k faulted p
    pub once : (p : ℕ) → count_by (λ q. q == p) runs ≤ 1

  -- the traps of runs from a store, as they came
  abbrev pub traps_of : Programs S K V Z E → S → List ℕ → List (ℕ × E)
  traps_of P s runs = filter_map (λ p. option_map (λ (e : E). (p, e)) (P.run p s).trap) runs

  -- what runs from the old store make of it: each gives the slots that its program writes, and all else stays
  pub record TakesRuns (P : Programs S K V Z E) (old : Midway S) (runs : List ℕ) (new : Midway S) : Type 0 where
    pub size : P.size new.store ≡ P.size old.store
    pub taken : (p : ℕ) (x : K) → Contains runs p → P.writes p x ≡ true → P.value new.store x ≡ P.value (P.run p old.store).store x
    pub kept : (x : K) → ((p : ℕ) → Contains runs p → P.writes p x ≡ false) → P.value new.store x ≡ P.value old.store x
    pub flagged : (p : ℕ) → Contains runs p → slice_get new.faulted p ≡ Some (is_some (P.run p old.store).trap)
    pub unflagged : (p : ℕ) → (Contains runs p → ⊥) → slice_get new.faulted p ≡ slice_get old.faulted p
