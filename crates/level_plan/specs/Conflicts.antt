-- Which programs conflict, by the globals that each reads and writes.
use Rattle.std.specs.Prelude.{ℕ, ◌<◌, ◌⊎◌, List}
use Rattle.level_plan.specs.Accesses.{PlainAccess, Writes, Touches, access_at}

-- one of two programs writes a global that the other reads or writes
abbrev pub Conflicts : PlainAccess → PlainAccess → Type 0
Conflicts a b = (global : ℕ) × ((Writes a global × Touches b global) ⊎ (Touches a global × Writes b global))

-- a program conflicts with a later one
pub record ConflictsBefore (programs : List PlainAccess) (q p : ℕ) : Type 0 where
  pub earlier : q < p
  pub conflict : Conflicts (access_at programs q) (access_at programs p)
