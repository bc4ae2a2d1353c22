-- Programs level by level, in any order within a level.
use Rattle.std.specs.Prelude.{◌≡◌, ℕ, suc, ◌<◌, ◌≤◌, ◌==◌, ◌↔◌, Bool, true, false, List, [], ◌++◌, length, Some, is_some, slice_get, count_by, Contains, IsPermutation}
use Rattle.std.specs.List.Sorted.{IsNonDecreasingBy}
use Rattle.level_runs.specs.Stores.{Outcome, Programs, AreLocal, in_order}

-- how things stand between two levels: the store, and for each program whether it is faulted
pub record Midway (S : Type 0) : Type 0 where
  pub store : S
  pub faulted : List Bool

module _ {S K V Z E : Type 0} where
  -- the first n programs stand in levels from 1 to the last: of two of which one writes what the other names the earlier stands in the lower level
  pub record AreLevels (P : Programs S K V Z E) (n last : ℕ) : Type 0 where
    pub above_none : (p : ℕ) → p < n → 0 < P.level p
    pub at_most_last : (p : ℕ) → p < n → P.level p ≤ last
    pub written_first : (p q : ℕ) (x : K) → p < q → q < n → P.writes p x ≡ true → P.names q x ≡ true → P.level p < P.level q
    pub named_first : (p q : ℕ) (x : K) → p < q → q < n → P.names p x ≡ true → P.writes q x ≡ true → P.level p < P.level q

  -- a program runs in a level that it stands in, unless it is faulted
  pub record IsRun (P : Programs S K V Z E) (k : ℕ) (faulted : List Bool) (p : ℕ) : Type 0 where
    pub in_level : P.level p ≡ k
    pub unfaulted : slice_get faulted p ≡ Some false

  -- a level is run: each program of it from the old store, whatever the others do
  pub record TakesLevel (P : Programs S K V Z E) (k : ℕ) (old new : Midway S) (faults : List (ℕ × E)) : Type 0 where
    pub size : P.size new.store ≡ P.size old.store
    -- the new store takes from each run the slots that the program writes
    pub taken : (p : ℕ) (x : K) → IsRun P k old.faulted p → P.writes p x ≡ true → P.value new.store x ≡ P.value (P.run p old.store).store x
    -- all else stays
    pub kept : (x : K) → ((p : ℕ) → IsRun P k old.faulted p → P.writes p x ≡ false) → P.value new.store x ≡ P.value old.store x
    -- those that trapped are faulted, and the flags of all others stay
    pub flagged : (p : ℕ) → IsRun P k old.faulted p → slice_get new.faulted p ≡ Some (is_some (P.run p old.store).trap)
    pub unflagged : (p : ℕ) → (IsRun P k old.faulted p → ⊥) → slice_get new.faulted p ≡ slice_get old.faulted p
    -- the faults are the traps, in any order, and no program has two
    pub traps : (p : ℕ) (e : E) → Contains faults (p, e) ↔ (IsRun P k old.faulted p × ((P.run p old.store).trap ≡ Some e))
    pub once : (p : ℕ) → count_by (λ (f : ℕ × E). f.0 == p) faults ≤ 1

  -- the levels 1, 2, .. up to a number are run in turn, and the faults of each come behind those of the levels before it
  pub data RunsLevels (P : Programs S K V Z E) (start : Midway S) : ℕ → Midway S → List (ℕ × E) → Type 0 where
    no_level : RunsLevels P start 0 start []
    next_level : {k : ℕ} {old new : Midway S} {faults here : List (ℕ × E)} → RunsLevels P start k old faults → TakesLevel P (suc k) old new here → RunsLevels P start (suc k) new (faults ++ here)

-- the store and the flags are those of program order, and so is the trap of each program: sorted by program number, the faults are those of program order
pub record IsAsInOrder {S E : Type 0} (order : Outcome S E) (end : Midway S) (faults : List (ℕ × E)) : Type 0 where
  pub store : end.store ≡ order.store
  pub faulted : end.faulted ≡ order.faulted
  pub traps : (p : ℕ) (e : E) → Contains faults (p, e) ↔ Contains order.faults (p, e)
  pub sorted : (list : List (ℕ × E)) → IsPermutation faults list → IsNonDecreasingBy (λ (f : ℕ × E). f.0) list → list ≡ order.faults

-- the levels in turn, in any order within each and with any programs trapping midway, do what the programs do one after another
abbrev pub LevelsAreAsInOrder : {S K V Z E : Type 0} → Programs S K V Z E → ℕ → Midway S → Type 0
LevelsAreAsInOrder {S} {K} {V} {Z} {E} P last start = (end : Midway S) (faults : List (ℕ × E)) → AreLocal P (length start.faulted) → AreLevels P (length start.faulted) last
    → RunsLevels P start last end faults → IsAsInOrder (in_order P.run 0 start.faulted start.store) end faults
