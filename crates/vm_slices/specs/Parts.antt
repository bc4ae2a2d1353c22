-- A program's part of the cells: the slots and clocks that its code names, and the code by their numbers in the part.
use Rattle.std.specs.Prelude.{◌≡◌, ◌<◌, ℕ, List, length, get_or, Some, slice_get, Contains}
use Rattle.logic_cells.specs.Cells.{PlainCells, picked}
use Rattle.acc_vm.specs.declared.instr.Instr.{Instr}
use Rattle.acc_vm.specs.Codes.{PlainCode, SameShape}
use Rattle.vm_slices.specs.Alike.{IsKept}
use Rattle.vm_slices.specs.Ascending.{Rises}
use Rattle.vm_slices.specs.Slots.{Names, Writes, NamesClock}
use Rattle.vm_slices.specs.Renaming.{renamed_code}

-- code by a part's numbers; by these the slots and the clocks that it names in all cells; and the places among the slots of those that it writes
pub record PlainPart : Type 0 where
  pub code : PlainCode
  pub slots : List ℕ
  pub written : List ℕ
  pub clocks : List ℕ

-- the part of a code: it has each slot and each clock that the code names, once, and nothing else; its slots rise, so slots that are one after another stay so; and it has the places of those that are written, which rise too
pub record IsPartOf (whole : PlainCode) (part : PlainPart) : Type 0 where
  pub slot_place : ℕ → ℕ
  pub clock_place : ℕ → ℕ
  pub is : part.code ≡ renamed_code slot_place clock_place (length part.slots) (length part.clocks) whole
  pub slots : (s : ℕ) → Names whole.instrs s → slice_get part.slots (slot_place s) ≡ Some s
  pub clocks : (k : ℕ) → NamesClock whole.instrs k → slice_get part.clocks (clock_place k) ≡ Some k
  pub only_slots : (i s : ℕ) → slice_get part.slots i ≡ Some s → Names whole.instrs s × (slot_place s ≡ i)
  pub only_clocks : (i k : ℕ) → slice_get part.clocks i ≡ Some k → NamesClock whole.instrs k × (clock_place k ≡ i)
  pub rise : Rises part.slots
  pub inside : (i p : ℕ) → slice_get part.written i ≡ Some p → p < length part.slots
  pub written : (s : ℕ) → Writes whole.instrs s → Contains part.written (slot_place s)
  pub only_written : (p s : ℕ) → Contains part.written p → slice_get part.slots p ≡ Some s → Writes whole.instrs s
  pub written_rise : Rises part.written

-- a part has its slots once each, places of theirs for those that its code writes, and its clocks once each; and its code needs no more than these
pub record IsPart (part : PlainPart) : Type 0 where
  pub values : part.code.values ≡ length part.slots
  pub clocks : part.code.clocks ≡ length part.clocks
  pub inside : (i p : ℕ) → slice_get part.written i ≡ Some p → p < length part.slots
  pub apart : (i j s : ℕ) → slice_get part.slots i ≡ Some s → slice_get part.slots j ≡ Some s → i ≡ j
  pub clocks_apart : (i j k : ℕ) → slice_get part.clocks i ≡ Some k → slice_get part.clocks j ≡ Some k → i ≡ j

-- slots are those that instructions name, in ascending order and each at the place that a table has for it; and the places of those that they write rise too
pub record AreSlots (instrs : List Instr) (places slots written : List ℕ) : Type 0 where
  pub named : (s : ℕ) → Names instrs s → slice_get slots (get_or places s 0) ≡ Some s
  pub only : (i s : ℕ) → slice_get slots i ≡ Some s → Names instrs s × (get_or places s 0 ≡ i)
  pub rise : Rises slots
  pub inside : (i p : ℕ) → slice_get written i ≡ Some p → p < length slots
  pub written_in : (s : ℕ) → Writes instrs s → Contains written (get_or places s 0)
  pub only_written : (p s : ℕ) → Contains written p → slice_get slots p ≡ Some s → Writes instrs s
  pub written_rise : Rises written

-- clocks are those that instructions name, each once at the place that a table has for it
pub record AreClocks (instrs : List Instr) (places clocks : List ℕ) : Type 0 where
  pub named : (k : ℕ) → NamesClock instrs k → slice_get clocks (get_or places k 0) ≡ Some k
  pub only : (i k : ℕ) → slice_get clocks i ≡ Some k → NamesClock instrs k × (get_or places k 0 ≡ i)

-- a part's cells, with the values and clocks that they have in all cells
abbrev pub loaded : PlainPart → PlainCells → PlainCells
loaded part cells = picked part.slots part.clocks cells

-- cells have all slots and clocks of a part
pub record HasPart (part : PlainPart) (cells : PlainCells) : Type 0 where
  pub slots : (i s : ℕ) → slice_get part.slots i ≡ Some s → s < length cells.values
  pub clocks : (i k : ℕ) → slice_get part.clocks i ≡ Some k → k < length cells.clocks

-- a part's cells after a run of its code have the values and clocks that all cells have after the code's run from these, which left what the code doesn't write
pub record PartAfter (whole : PlainCode) (part : PlainPart) (cells after small : PlainCells) : Type 0 where
  pub values : (i s : ℕ) → slice_get part.slots i ≡ Some s → slice_get small.values i ≡ slice_get after.values s
  pub clocks : (i k : ℕ) → slice_get part.clocks i ≡ Some k → slice_get small.clocks i ≡ slice_get after.clocks k
  pub kept : IsKept whole.instrs cells after
  pub shape : SameShape small (loaded part cells)
