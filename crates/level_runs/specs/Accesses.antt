-- What of codes decides on their levels.
use Rattle.std.specs.Prelude.{◌≡◌, ◌↔◌, ℕ, ◌<◌, ◌≤◌, List, length, All, Contains, slice_index_or}
use Rattle.acc_vm.specs.declared.instr.Instr.{Instr}
use Rattle.acc_vm.specs.Codes.{PlainCode}
use Rattle.vm_slices.specs.Slots as slots
use Rattle.vm_slices.specs.Slots.{Names, NamesClock}
use Rattle.vm_slices.specs.Parts.{PlainPart, IsPartOf}
use Rattle.level_plan.specs.declared.access.Extent.{Extent}
use Rattle.level_plan.specs.Accesses.{PlainAccess, EndsWithin, HaveGlobal, Touches, Writes, access_at}
use Rattle.level_runs.specs.Programs.{code_at}

-- extents have those of a list's numbers that are below a number
pub record AreGlobalsOf (globals : ℕ) (numbers : List ℕ) (extents : List Extent) : Type 0 where
  pub within : All (λ extent. EndsWithin globals extent) extents
  pub each : (global : ℕ) → global < globals → HaveGlobal extents global ↔ Contains numbers global

-- an access tells which of so many globals a code names, and which it writes
pub record IsAccessOf (globals : ℕ) (code : List Instr) (access : PlainAccess) : Type 0 where
  pub named : (global : ℕ) → global < globals → Touches access global ↔ Names code global
  pub written : (global : ℕ) → global < globals → Writes access global ↔ slots.Writes code global

-- accesses are those of codes
pub record AreAccessesOf (globals : ℕ) (codes : List PlainCode) (accesses : List PlainAccess) : Type 0 where
  pub one_each : length accesses ≡ length codes
  pub each : (p : ℕ) → p < length codes → IsAccessOf globals (code_at codes p).instrs (access_at accesses p)

-- parts of the cells are those of codes
pub record ArePartsOf (codes : List PlainCode) (parts : List PlainPart) : Type 0 where
  pub one_each : length parts ≡ length codes
  pub each : (p : ℕ) (d : PlainPart) → p < length codes → IsPartOf (code_at codes p) (slice_index_or parts p d)

-- beside the globals, which come first, no two codes name the same value, and no two name the same clock
pub record HaveOwnCells (globals : ℕ) (codes : List PlainCode) : Type 0 where
  pub values : (p q s : ℕ) → p < length codes → q < length codes → globals ≤ s → Names (code_at codes p).instrs s → Names (code_at codes q).instrs s → p ≡ q
  pub clocks : (p q k : ℕ) → p < length codes → q < length codes → NamesClock (code_at codes p).instrs k → NamesClock (code_at codes q).instrs k → p ≡ q
