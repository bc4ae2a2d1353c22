-- What programs read and write.
use Rattle.std.specs.Prelude.{ℕ, ◌+◌, ◌<◌, ◌≤◌, ◌⊎◌, List, [], All, slice_index_or}
use Rattle.std.specs.List.{Any}
use Rattle.level_plan.specs.declared.access.Extent.{Extent}

-- an extent has the global of a number
pub record Covers (extent : Extent) (global : ℕ) : Type 0 where
  pub from_first : extent.first ≤ global
  pub before_end : global < extent.first + extent.count

-- one of some extents has it
abbrev pub HaveGlobal : List Extent → ℕ → Type 0
HaveGlobal extents global = Any (λ extent. Covers extent global) extents

-- the globals that a program reads, and those that it writes
pub record PlainAccess : Type 0 where
  pub reads : List Extent
  pub writes : List Extent

abbrev pub Reads : PlainAccess → ℕ → Type 0
Reads access global = HaveGlobal access.reads global

abbrev pub Writes : PlainAccess → ℕ → Type 0
Writes access global = HaveGlobal access.writes global

-- a program reads or writes a global
abbrev pub Touches : PlainAccess → ℕ → Type 0
Touches access global = Reads access global ⊎ Writes access global

abbrev pub no_access : PlainAccess
no_access = record { reads = []; writes = [] }

-- what the program of a number reads and writes; nothing if there is no such program
abbrev pub access_at : List PlainAccess → ℕ → PlainAccess
access_at programs p = slice_index_or programs p no_access

-- the globals of an extent are below a number
abbrev pub EndsWithin : ℕ → Extent → Type 0
EndsWithin globals extent = extent.first + extent.count ≤ globals

-- each global that a program reads or writes is below a number
pub record StaysWithin (globals : ℕ) (access : PlainAccess) : Type 0 where
  pub reads : All (λ extent. EndsWithin globals extent) access.reads
  pub writes : All (λ extent. EndsWithin globals extent) access.writes

-- so are those of each of some programs
pub record StayWithin (globals : ℕ) (programs : List PlainAccess) : Type 0 where
  pub each : All (λ access. StaysWithin globals access) programs
