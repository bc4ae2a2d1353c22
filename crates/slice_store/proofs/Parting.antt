-- Parts of codes that are apart.
use Rattle.std.proofs.Common.{◌≡◌, ◌<◌, ◌^◌, ℕ, List, length, Some, arith, inl, inr}
use Rattle.std.specs.Prelude.{slice_get}
use Rattle.std.specs.List.{AllByRecursion}
use Rattle.std.proofs.lemmas.List.Elements.{All-from_recursion, All-contains}
use Rattle.logic_cells.specs.Cells.{PlainCells}
use Rattle.acc_vm.specs.declared.instr.Instr.{Instr}
use Rattle.acc_vm.specs.Codes.{PlainCode, IsSound}
use Rattle.vm_slices.specs.Slots.{SomeHas, slots_read, slots_written, clocks_of, Names, NamesClock}
use Rattle.vm_slices.specs.Parts.{PlainPart}
use Rattle.vm_slices.proofs.Sound.{read_past, written_past, clock_past}
use Rattle.slice_store.specs.Splits.{CanSplit, AreApartCodes, ArePartsOf}

some_below : (numbers : Instr → List ℕ) (n : ℕ) (code : List Instr) → ((pc : ℕ) (i : Instr) → slice_get code pc ≡ Some i → AllByRecursion (λ s. s < n) (numbers i)) → (s : ℕ) → SomeHas numbers code s → s < n
some_below numbers n code h s some = All-contains (λ s. s < n) (numbers some.1) s (All-from_recursion (λ s. s < n) (numbers some.1) (h some.0 some.1 some.2)) some.3

-- what sound code names is below its numbers of slots and clocks
names_below : (code : PlainCode) → IsSound code → (s : ℕ) → Names code.instrs s → s < code.values
names_below code sound s named = elim named.some [
  | inl some ↦ some_below slots_read code.values code.instrs (λ pc i at. read_past i code.values (sound.within pc i at).0) s some
  | inr some ↦ some_below slots_written code.values code.instrs (λ pc i at. written_past i code.values (sound.within pc i at).0) s some
]

clock_below : (code : PlainCode) → IsSound code → (k : ℕ) → NamesClock code.instrs k → k < code.clocks
clock_below code sound k named = some_below clocks_of code.clocks code.instrs (λ pc i at. clock_past i code.clocks (sound.within pc i at).1) k named.some

pub can_split : (codes : List PlainCode) (parts : List PlainPart) (levels : List ℕ) (level : ℕ) (cells : PlainCells) (flags : ℕ) → ArePartsOf codes parts → AreApartCodes codes levels level cells
    → length levels ≡ length parts → flags ≡ length parts → length parts < 2 ^ 32 → CanSplit parts levels level cells flags
can_split codes parts levels level cells flags are apart levelled flagged few = record {
  levelled = levelled;
  flagged = flagged;
  few = few;
  inside = λ p part at.
      let x = are.each p part at in
      let values = apart.values p x.0 x.1 in let clocks = apart.clocks p x.0 x.1 in
      record {
        slots = λ i s there. let below = names_below x.0 (apart.sound p x.0 x.1) s (x.2.only_slots i s there).0 in omega arith;
        clocks = λ i k there. let below = clock_below x.0 (apart.sound p x.0 x.1) k (x.2.only_clocks i k there).0 in omega arith;
      };
  apart = λ p q a b slot at there l m w v.
      let x = are.each p a at in let y = are.each q b there in
      apart.apart p q x.0 y.0 slot x.1 y.1 l m (x.2.only_written w.place slot w.written w.at) (y.2.only_slots v.place slot v.at).0;
  clocks_apart = λ p q a b k at there w v.
      let x = are.each p a at in let y = are.each q b there in
      apart.clocks_apart p q x.0 y.0 k x.1 y.1 (x.2.only_clocks w.place k w.at).0 (y.2.only_clocks v.place k v.at).0;
}
