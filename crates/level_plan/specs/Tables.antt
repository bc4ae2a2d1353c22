-- Tables of a level for each global.
use Rattle.std.specs.Prelude.{◌≡◌, ◌⊎◌, ℕ, ◌≤◌, List, slice_index}
use Rattle.level_plan.specs.Accesses.{PlainAccess, Writes, Touches}

-- a level is the greatest that a table has at some globals, or 0 if there are none
pub record IsTop (Has : ℕ → Type 0) (levels : List ℕ) (top : ℕ) : Type 0 where
  pub bounds : (global : ℕ) → Has global → slice_index levels global ≤ top
  pub reached : (top ≡ 0) ⊎ ((global : ℕ) × Has global × (slice_index levels global ≡ top))

-- a level is the greatest among the writers at what a program reads or writes, and among the readers at what it writes, or 0 if there are none
pub record IsTopBefore (writers readers : List ℕ) (access : PlainAccess) (top : ℕ) : Type 0 where
  pub writers_bound : (global : ℕ) → Touches access global → slice_index writers global ≤ top
  pub readers_bound : (global : ℕ) → Writes access global → slice_index readers global ≤ top
  pub reached : (top ≡ 0) ⊎ ((global : ℕ) × ((Touches access global × (slice_index writers global ≡ top)) ⊎ (Writes access global × (slice_index readers global ≡ top))))

-- a level at some globals, and at the others what stood there: at each the greater of both
pub record IsRaised (Has : ℕ → Type 0) (level : ℕ) (old new : List ℕ) : Type 0 where
  pub kept : (global : ℕ) → slice_index old global ≤ slice_index new global
  pub raised : (global : ℕ) → Has global → level ≤ slice_index new global
  pub reached : (global : ℕ) → (slice_index new global ≡ slice_index old global) ⊎ (Has global × (slice_index new global ≡ level))
