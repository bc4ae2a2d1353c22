-- What may be said of any levels of programs, whatever rule gives them.
use Rattle.std.specs.Prelude.{◌≡◌, ◌≢◌, ℕ, ◌+◌, ◌<◌, ◌≤◌, List, length}
use Rattle.level_plan.specs.Accesses.{PlainAccess, access_at, Writes, Touches}
use Rattle.level_plan.specs.Conflicts.{ConflictsBefore}

-- each program stands in a level from 1 on, up to a last one
abbrev pub AreFromOneTo : ℕ → List PlainAccess → (ℕ → ℕ) → Type 0
AreFromOneTo last programs level = (p : ℕ) → p < length programs → (1 ≤ level p) × (level p ≤ last)

-- in a level no program reads or writes a global that another one of it writes
abbrev pub AreApart : List PlainAccess → (ℕ → ℕ) → Type 0
AreApart programs level = (p q global : ℕ) → p ≢ q → level p ≡ level q → Writes (access_at programs p) global → Touches (access_at programs q) global → ⊥

-- of two programs that conflict the earlier stands in the lower level
abbrev pub AreInOrder : List PlainAccess → (ℕ → ℕ) → Type 0
AreInOrder programs level = (p q : ℕ) → ConflictsBefore programs q p → level q < level p

-- each program above level 1 conflicts with an earlier one of the level just below
abbrev pub AreTight : List PlainAccess → (ℕ → ℕ) → Type 0
AreTight programs level = (p : ℕ) → p < length programs → 1 < level p → (q : ℕ) × ConflictsBefore programs q p × (level q + 1 ≡ level p)

-- levels from 1 on that are in order
pub record IsLevelling (programs : List PlainAccess) (level : ℕ → ℕ) : Type 0 where
  pub from_one : (p : ℕ) → p < length programs → 1 ≤ level p
  pub in_order : AreInOrder programs level

-- no program stands higher than in other levels
abbrev pub AreAsLow : List PlainAccess → (ℕ → ℕ) → (ℕ → ℕ) → Type 0
AreAsLow programs level other = (p : ℕ) → p < length programs → level p ≤ other p
