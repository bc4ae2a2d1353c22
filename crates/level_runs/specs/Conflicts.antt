-- Which programs of compiled code conflict, and what may be said of any levels of them.
use Rattle.std.specs.Prelude.{◌≡◌, ◌⊎◌, ℕ, ◌+◌, ◌<◌, ◌≤◌, List, length}
use Rattle.acc_vm.specs.Codes.{PlainCode}
use Rattle.vm_slices.specs.Slots.{Names, Writes}
use Rattle.level_runs.specs.Programs.{code_at}

-- one of two codes writes a global, of so many, that the other reads or writes
pub record CodesConflict (globals : ℕ) (one other : PlainCode) : Type 0 where
  pub global : ℕ
  pub shared : global < globals
  pub meet : (Writes one.instrs global × Names other.instrs global) ⊎ (Names one.instrs global × Writes other.instrs global)

-- a program conflicts with a later one
pub record CodeConflictsBefore (globals : ℕ) (codes : List PlainCode) (q p : ℕ) : Type 0 where
  pub earlier : q < p
  pub conflict : CodesConflict globals (code_at codes q) (code_at codes p)

-- each program above level 1 conflicts with an earlier one of the level just below
abbrev pub AreTightFor : ℕ → List PlainCode → (ℕ → ℕ) → Type 0
AreTightFor globals codes level = (p : ℕ) → p < length codes → 1 < level p → (q : ℕ) × CodeConflictsBefore globals codes q p × (level q + 1 ≡ level p)

-- levels from 1 on, in which of two programs that conflict the earlier stands lower
pub record IsLevellingOf (globals : ℕ) (codes : List PlainCode) (level : ℕ → ℕ) : Type 0 where
  pub from_one : (p : ℕ) → p < length codes → 1 ≤ level p
  pub in_order : (p q : ℕ) → CodeConflictsBefore globals codes q p → level q < level p

-- no program stands higher than in other levels
abbrev pub AreAsLowFor : List PlainCode → (ℕ → ℕ) → (ℕ → ℕ) → Type 0
AreAsLowFor codes level other = (p : ℕ) → p < length codes → level p ≤ other p

-- no program stands higher than in a last level
abbrev pub EndBy : ℕ → List PlainCode → (ℕ → ℕ) → Type 0
EndBy last codes level = (p : ℕ) → p < length codes → level p ≤ last
