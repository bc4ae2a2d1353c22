-- How a level is split into jobs.
use Rattle.std.specs.Prelude.{◌≡◌, ◌<◌, ◌≤◌, ◌^◌, ℕ, suc, List, length, Contains, Bool, false, Some, slice_get, slice_index, slice_index_or}
use Rattle.crew.specs.Runs.{IsDistinct}
use Rattle.logic_cells.specs.Cells.{PlainCells}
use Rattle.acc_vm.specs.Codes.{PlainCode, IsSound}
use Rattle.vm_slices.specs.Slots.{Names, Writes, NamesClock}
use Rattle.vm_slices.specs.Parts.{PlainPart, IsPartOf, HasPart, loaded}
use Rattle.slice_store.specs.Starts.{Begun}
use Rattle.slice_store.specs.Level.{Stored, WritesSlot, NamesSlot, HasClock}

-- a level of programs can be split: each program has a level and a flag, and the cells have its part; in the level none writes a slot that another names, and no two programs name one clock
pub record CanSplit (parts : List PlainPart) (levels : List ℕ) (level : ℕ) (cells : PlainCells) (flags : ℕ) : Type 0 where
  pub levelled : length levels ≡ length parts
  pub flagged : flags ≡ length parts
  pub few : length parts < 2 ^ 32
  pub inside : (p : ℕ) (part : PlainPart) → slice_get parts p ≡ Some part → HasPart part cells
  pub apart : (p q : ℕ) (a b : PlainPart) (slot : ℕ) → slice_get parts p ≡ Some a → slice_get parts q ≡ Some b → slice_index levels p ≡ level → slice_index levels q ≡ level
      → WritesSlot a slot → NamesSlot b slot → p ≡ q
  pub clocks_apart : (p q : ℕ) (a b : PlainPart) (k : ℕ) → slice_get parts p ≡ Some a → slice_get parts q ≡ Some b → HasClock a k → HasClock b k → p ≡ q

-- a program is in a level, and isn't faulted
pub record IsChosen (levels : List ℕ) (level : ℕ) (faulted : List Bool) (p : ℕ) : Type 0 where
  pub level_is : slice_index levels p ≡ level
  pub sound : slice_index_or faulted p false ≡ false

-- where the job of a program starts
abbrev pub begun : ℕ → PlainPart → ℕ → PlainCells → Begun
begun number part moment cells = record { number = number; part = part; moment = moment; cells = loaded part cells }

-- a job is that of one of the first programs, which is in the level and isn't faulted
pub record IsJobBefore (parts : List PlainPart) (levels : List ℕ) (level : ℕ) (store : Stored) (n : ℕ) (s : Begun) : Type 0 where
  pub program : ℕ
  pub below : program < n
  pub part_is : slice_get parts program ≡ Some s.part
  pub chosen : IsChosen levels level store.faulted program
  pub starts : s ≡ begun (suc program) s.part store.moment store.cells

-- jobs are those of the first programs that are in the level and aren't faulted, one for each, and start from the store as it is
pub record AreJobsBefore (parts : List PlainPart) (levels : List ℕ) (level : ℕ) (store : Stored) (n : ℕ) (jobs : List Begun) : Type 0 where
  pub each : (s : Begun) → Contains jobs s → IsJobBefore parts levels level store n s
  pub all : (p : ℕ) (part : PlainPart) → p < n → slice_get parts p ≡ Some part → IsChosen levels level store.faulted p → Contains jobs (begun (suc p) part store.moment store.cells)
  pub distinct : IsDistinct jobs

-- but for what is out, a store is as it was
pub record SameStore (new old : Stored) : Type 0 where
  pub cells : new.cells ≡ old.cells
  pub faulted : new.faulted ≡ old.faulted
  pub moment : new.moment ≡ old.moment

-- the codes of programs may run in parts over cells: the cells have what each names; in a level none writes a slot that another names, and no two codes name one clock
pub record AreApartCodes (codes : List PlainCode) (levels : List ℕ) (level : ℕ) (cells : PlainCells) : Type 0 where
  pub sound : (p : ℕ) (a : PlainCode) → slice_get codes p ≡ Some a → IsSound a
  pub values : (p : ℕ) (a : PlainCode) → slice_get codes p ≡ Some a → a.values ≤ length cells.values
  pub clocks : (p : ℕ) (a : PlainCode) → slice_get codes p ≡ Some a → a.clocks ≤ length cells.clocks
  pub apart : (p q : ℕ) (a b : PlainCode) (slot : ℕ) → slice_get codes p ≡ Some a → slice_get codes q ≡ Some b → slice_index levels p ≡ level → slice_index levels q ≡ level
      → Writes a.instrs slot → Names b.instrs slot → p ≡ q
  pub clocks_apart : (p q : ℕ) (a b : PlainCode) (k : ℕ) → slice_get codes p ≡ Some a → slice_get codes q ≡ Some b → NamesClock a.instrs k → NamesClock b.instrs k → p ≡ q

-- parts are those of codes, one for each
pub record ArePartsOf (codes : List PlainCode) (parts : List PlainPart) : Type 0 where
  pub each : (p : ℕ) (part : PlainPart) → slice_get parts p ≡ Some part → (a : PlainCode) × (slice_get codes p ≡ Some a) × IsPartOf a part
