-- The levels of programs that run in an order, by the rule.
use Rattle.std.specs.Prelude.{◌≡◌, ◌⊎◌, ℕ, ◌+◌, ◌<◌, ◌≤◌, max, List, [], ◌∷◌, length, slice_index}
use Rattle.level_plan.specs.Conflicts.{ConflictsBefore}
use Rattle.level_plan.specs.Accesses.{PlainAccess}

-- a program conflicts with no earlier one, and stands in level 1
pub record StandsFirst (programs : List PlainAccess) (level : ℕ → ℕ) (p : ℕ) : Type 0 where
  pub alone : (q : ℕ) → ConflictsBefore programs q p → ⊥
  pub one : level p ≡ 1

-- a program stands one level above an earlier one with which it conflicts, and none of those stands higher than that one
pub record StandsAbove (programs : List PlainAccess) (level : ℕ → ℕ) (p q : ℕ) : Type 0 where
  pub before : ConflictsBefore programs q p
  pub greatest : (r : ℕ) → ConflictsBefore programs r p → level r ≤ level q
  pub one_more : level p ≡ level q + 1

-- a program's level is 1 more than the greatest level of an earlier program with which it conflicts, or 1 if there is none
abbrev pub FollowsRule : List PlainAccess → (ℕ → ℕ) → ℕ → Type 0
FollowsRule programs level p = StandsFirst programs level p ⊎ ((q : ℕ) × StandsAbove programs level p q)

-- each program has its level
pub record IsPlan (programs : List PlainAccess) (levels : List ℕ) : Type 0 where
  pub one_each : length levels ≡ length programs
  pub rule : (p : ℕ) → p < length programs → FollowsRule programs (slice_index levels) p

-- the greatest level, or 0 if there is none
abbrev pub last_of : List ℕ → ℕ
last_of [] = 0
last_of (level ∷ levels) = max level (last_of levels)
