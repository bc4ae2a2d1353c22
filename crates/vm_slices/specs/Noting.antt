-- Numbers that are noted once each, with a table of their places.
use Rattle.std.specs.Prelude.{◌≡◌, ◌<◌, ◌≤◌, ℕ, List, length, get_or, Some, slice_get, Contains, ◌⊎◌}
use Rattle.acc_vm.specs.declared.instr.Instr.{Instr}
use Rattle.acc_vm.specs.declared.instr.Row.{Row}
use Rattle.vm_slices.specs.Slots.{SomeHas}

-- a number is noted where the table has its place
abbrev pub IsNoted : (places numbers : List ℕ) → ℕ → Type 0
IsNoted places numbers s = slice_get numbers (get_or places s 0) ≡ Some s

-- each number that is noted is within the table, and stands at the place that this has for it, and so nowhere else
abbrev pub AreOnce : (places numbers : List ℕ) → Type 0
AreOnce places numbers = (i s : ℕ) → slice_get numbers i ≡ Some s → (s < length places) × (get_or places s 0 ≡ i)

-- numbers with a property were noted behind those that were there, and no others
pub record Notes (Named : ℕ → Type 0) (places numbers after noted : List ℕ) : Type 0 where
  pub size : length after ≡ length places
  pub kept : (i s : ℕ) → slice_get numbers i ≡ Some s → slice_get noted i ≡ Some s
  pub lasts : (s : ℕ) → IsNoted places numbers s → IsNoted after noted s
  pub all : (s : ℕ) → Named s → IsNoted after noted s
  pub only : (i s : ℕ) → slice_get noted i ≡ Some s → (slice_get numbers i ≡ Some s) ⊎ Named s
  pub once : AreOnce places numbers → AreOnce after noted

-- rows are those that a rule tells of instructions
pub record AreRowsOf (rule : Instr → List Row) (instrs : List Instr) (rows : List Row) : Type 0 where
  pub all : (r : Row) → SomeHas rule instrs r → Contains rows r
  pub only : (r : Row) → Contains rows r → SomeHas rule instrs r

-- a slot is one of a row
abbrev pub IsInRow : Row → ℕ → Type 0
IsInRow r s = (r.first ≤ s) × (s < r.past)

-- it is one of some row
abbrev pub IsInRows : List Row → ℕ → Type 0
IsInRows rows s = (r : Row) × Contains rows r × IsInRow r s
