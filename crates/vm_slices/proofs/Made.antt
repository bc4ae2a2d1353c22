-- The part that is made of a code.
use Rattle.std.proofs.Common.{◌≡◌, ◌<◌, ◌≤◌, ℕ, List, [], map, length, get_or, Some, ap, sym, ◌∙◌, subst, arith, inl, inr, Contains}
use Rattle.std.specs.Prelude.{slice_get, option_map, IsPermutation, IsSorted}
use Rattle.std.specs.Ordering.{nat_cmp}
use Rattle.std.proofs.lemmas.Bool.{cases_lt}
use Rattle.std.proofs.lemmas.List.Sorted.{Contains-permutation, IsPermutation-sym}
use Rattle.std.proofs.lemmas.Option.{same_Some, slice_get_within, slice_get-map}
use Rattle.plant_types.specs.declared.values.Place.{Place}
use Rattle.acc_vm.specs.declared.instr.Instr.{Instr}
use Rattle.acc_vm.specs.Codes.{PlainCode, IsSound, values_past}
use Rattle.vm_slices.specs.Slots.{slots_read, slots_written, clocks_of, SomeHas, Names, Writes}
use Rattle.acc_vm.specs.Operands.{renamed}
use Rattle.vm_slices.specs.Renaming.{renamed_code}
use Rattle.vm_slices.specs.Noting.{IsNoted, AreOnce, Notes}
use Rattle.vm_slices.specs.Ascending.{Rises, IsAscendingOf}
use Rattle.vm_slices.specs.Parts.{PlainPart, IsPart, IsPartOf, AreSlots, AreClocks}
use Rattle.vm_slices.proofs.Places.{noted_distinct}
use Rattle.vm_slices.proofs.Rising.{stands_at, has_at, sorted_rise}
use Rattle.vm_slices.proofs.RowLaws.{rows_kept}
use Rattle.vm_slices.proofs.Sound.{sound_again, was, below, read_past, written_past}

pub none_once : (places : List ℕ) → AreOnce places []
none_once places = λ i s at. absurd (cc)

-- the numbers of a list that were noted and then sorted are those with a property
pub sorted_are : (Has : ℕ → Type 0) (places noted sorted : List ℕ) → AreOnce places noted → ((s : ℕ) → Has s → IsNoted places noted s) → ((i s : ℕ) → slice_get noted i ≡ Some s → Has s)
    → IsPermutation noted sorted → IsSorted nat_cmp sorted → IsAscendingOf Has sorted
sorted_are Has places noted sorted once all only moved order = record {
  all = λ s has. Contains-permutation noted sorted s moved (has_at noted (get_or places s 0) s (all s has));
  only = λ s has. let at = stands_at noted s (Contains-permutation sorted noted s (IsPermutation-sym noted sorted moved) has) in only at.0 s at.1;
  rise = sorted_rise noted sorted (noted_distinct places noted once) moved order;
}

-- the slots that instructions write, and all that they name, as they were noted one after the other
module _ (code : List Instr) (first middle last one two : List ℕ) (p : Notes (SomeHas slots_written code) first [] middle one) (q : Notes (SomeHas slots_read code) middle one last two) where
  once : AreOnce last two
  once = q.once (p.once (none_once first))

  write_only : (i s : ℕ) → slice_get one i ≡ Some s → Writes code s
  write_only i s at = elim (p.only i s at) [ inl was ↦ absurd (cc) | inr written ↦ record { some = written } ]

  named_only : (i s : ℕ) → slice_get two i ≡ Some s → Names code s
  named_only i s at = elim (q.only i s at) [
    | inl had ↦ record { some = inr (write_only i s had).some }
    | inr read ↦ record { some = inl read }
  ]

  pub written_sorted : (wanted : List ℕ) → IsPermutation one wanted → IsSorted nat_cmp wanted → IsAscendingOf (Writes code) wanted
  written_sorted wanted = sorted_are (Writes code) middle one wanted (p.once (none_once first)) (λ s w. p.all s w.some) write_only

  pub named_sorted : (slots : List ℕ) → IsPermutation two slots → IsSorted nat_cmp slots → IsAscendingOf (Names code) slots
  named_sorted slots = sorted_are (Names code) last two slots once (λ s n. elim n.some [ inl read ↦ q.all s read | inr written ↦ q.lasts s (p.all s written) ]) named_only

-- what instructions name is below a number, where what each of them names is
pub names_below : (n : ℕ) (code : List Instr) → ((pc : ℕ) (i : Instr) → slice_get code pc ≡ Some i → values_past i ≤ n) → (s : ℕ) → Names code s → s < n
names_below n code few s named = elim named.some [
  | inl read ↦ below slots_read n code (λ pc i at. read_past i n (few pc i at)) s read
  | inr write ↦ below slots_written n code (λ pc i at. written_past i n (few pc i at)) s write
]

module _ (code : List Instr) (places slots wanted written : List ℕ) (named : IsAscendingOf (Names code) slots) (writes : IsAscendingOf (Writes code) wanted)
    (placed : (i s : ℕ) → slice_get slots i ≡ Some s → get_or places s 0 ≡ i) (are : written ≡ map (λ s. get_or places s 0) wanted) where
  named_there : (s : ℕ) → Names code s → slice_get slots (get_or places s 0) ≡ Some s
  named_there s n = let at = stands_at slots s (named.all s n) in ap (slice_get slots) (placed at.0 s at.1) ∙ at.1

  writes_there : (s : ℕ) → Contains wanted s → Names code s
  writes_there s has = record { some = inr (writes.only s has).some }

  -- a place that is told is that of a slot which is written
  told : (i p : ℕ) → slice_get written i ≡ Some p → (s : ℕ) × (slice_get wanted i ≡ Some s) × (get_or places s 0 ≡ p)
  told i p at = was (λ s. get_or places s 0) (slice_get wanted i) p (sym (slice_get-map (λ s. get_or places s 0) wanted i) ∙ ap (λ xs. slice_get xs i) (sym are) ∙ at)

  told_slot : (i p : ℕ) (at : slice_get written i ≡ Some p) → slice_get slots p ≡ Some (told i p at).0
  told_slot i p at = let t = told i p at in ap (slice_get slots) (sym t.2) ∙ named_there t.0 (writes_there t.0 (has_at wanted i t.0 t.1))

  places_rise : Rises written
  places_rise i j p q lt one other =
      let t = told i p one in
      let u = told j q other in
      let less : t.0 < u.0 = writes.rise i j t.0 u.0 lt t.1 u.1 in
      elim (cases_lt p q) [
        | inl low ↦ low
        | inr high ↦ elim (cases_lt q p) [
          | inl low ↦ let no = named.rise q p u.0 t.0 low (told_slot j q other) (told_slot i p one) in absurd (omega arith)
          | inr more ↦
              let e : p ≡ q = omega arith in
              let same : t.0 ≡ u.0 = same_Some t.0 u.0 (sym (told_slot i p one) ∙ ap (slice_get slots) e ∙ told_slot j q other) in
              absurd (omega arith)
        ]
      ]

  pub slots_are : AreSlots code places slots written
  slots_are = record {
    named = named_there;
    only = λ i s at. (named.only s (has_at slots i s at), placed i s at);
    rise = named.rise;
    inside = λ i p at. slice_get_within slots p (told i p at).0 (told_slot i p at);
    written_in = λ s w.
        let at = stands_at wanted s (writes.all s w) in
        has_at written at.0 (get_or places s 0) (ap (λ xs. slice_get xs at.0) are ∙ slice_get-map (λ s. get_or places s 0) wanted at.0 ∙ ap (option_map (λ s. get_or places s 0)) at.1);
    only_written = λ p s has at.
        let w = stands_at written p has in
        let t = told w.0 p w.1 in
        let same : t.0 ≡ s = same_Some t.0 s (sym (told_slot w.0 p w.1) ∙ at) in
        subst (Writes code) same (writes.only t.0 (has_at wanted w.0 t.0 t.1));
    written_rise = places_rise;
  }

pub clocks_are : (code : List Instr) (first last numbers : List ℕ) → Notes (SomeHas clocks_of code) first [] last numbers → AreClocks code last numbers
clocks_are code first last numbers p = record {
  named = λ k named. p.all k named.some;
  only = λ i k at. (elim (p.only i k at) [ inl was ↦ absurd (cc) | inr some ↦ record { some = some } ], (p.once (none_once first) i k at).1);
}

module _ (code : PlainCode) (places clock_places slots clocks written : List ℕ) (are : AreSlots code.instrs places slots written) (clock_are : AreClocks code.instrs clock_places clocks) where
  abbrev pub place : ℕ → ℕ
  place s = get_or places s 0

  abbrev pub clock_place : ℕ → ℕ
  clock_place k = get_or clock_places k 0

  abbrev pub moved : PlainCode
  moved = renamed_code place clock_place (length slots) (length clocks) code

  pub moved_is_sound : IsSound code → IsSound moved
  moved_is_sound sound = sound_again place clock_place (length slots) (length clocks) code sound
      (record {
        values = λ s r a b e. same_Some s r (sym (are.named s a) ∙ ap (slice_get slots) e ∙ are.named r b);
        clocks = λ k l a b e. same_Some k l (sym (clock_are.named k a) ∙ ap (slice_get clocks) e ∙ clock_are.named l b);
        rows = rows_kept code.instrs slots are.rise place are.named;
      })
      (record {
        values = λ s named. slice_get_within slots (place s) s (are.named s named);
        clocks = λ k named. slice_get_within clocks (clock_place k) k (clock_are.named k named);
      })

  pub is_part_of : (other : PlainCode) → other ≡ moved → IsPartOf code (record { code = other; slots = slots; written = written; clocks = clocks })
  is_part_of other e = record {
    slot_place = place;
    clock_place = clock_place;
    is = e;
    slots = are.named;
    clocks = clock_are.named;
    only_slots = are.only;
    only_clocks = clock_are.only;
    rise = are.rise;
    inside = are.inside;
    written = are.written_in;
    only_written = are.only_written;
    written_rise = are.written_rise;
  }

  pub same_code : (instrs : List Instr) (spots : List Place) (paths values clocks' stack cost : ℕ) → instrs ≡ map (renamed place clock_place) code.instrs → spots ≡ code.places → paths ≡ code.paths
      → values ≡ length slots → clocks' ≡ length clocks → stack ≡ code.stack → cost ≡ code.cost
      → record { instrs = instrs; places = spots; paths = paths; values = values; clocks = clocks'; stack = stack; cost = cost } ≡ moved
  same_code instrs spots paths values clocks' stack cost a b c d e f g = λ i. record { instrs = a i; places = b i; paths = c i; values = d i; clocks = e i; stack = f i; cost = g i }

-- what is the part of a code is a part
pub part_is : (whole : PlainCode) (part : PlainPart) → IsPartOf whole part → IsPart part
part_is whole part is = record {
  values = ap (λ (c : PlainCode). c.values) is.is;
  clocks = ap (λ (c : PlainCode). c.clocks) is.is;
  inside = is.inside;
  apart = λ i j s at there. sym (is.only_slots i s at).1 ∙ (is.only_slots j s there).1;
  clocks_apart = λ i j k at there. sym (is.only_clocks i k at).1 ∙ (is.only_clocks j k there).1;
}
