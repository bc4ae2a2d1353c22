-- The globals among slots, and what a part tells of a code.
use Rattle.std.proofs.Common.{◌≡◌, ◌<◌, ℕ, List, [], ◌∷◌, ◌++◌, length, map, get_or, ◌+◌, arith, refl, sym, ap, subst, ◌∙◌, inl, inr, ⊎_elim}
use Rattle.std.specs.Prelude.{Contains, Some, option_map, slice_get, slice_index_or}
use Rattle.std.proofs.lemmas.Bool.{cases_lt}
use Rattle.std.proofs.lemmas.List.{length_push, get_or_append_left, get_or_push, get_or_read}
use Rattle.std.proofs.lemmas.List.Elements.{All-push, Contains-append_left, Contains-push, Contains-push_cases}
use Rattle.std.proofs.lemmas.Option.{slice_get_read, slice_get_within, slice_get-get_or, slice_get-map, get_or_from_slice_get}
use Rattle.acc_vm.specs.Codes.{PlainCode}
use Rattle.vm_slices.specs.Slots as slots
use Rattle.vm_slices.specs.Slots.{Names}
use Rattle.vm_slices.specs.Parts.{PlainPart, IsPartOf}
use Rattle.vm_slices.proofs.Sound.{was}
use Rattle.level_plan.specs.declared.access.Extent.{Extent}
use Rattle.level_plan.specs.Accesses.{PlainAccess, Covers, EndsWithin, HaveGlobal, StaysWithin, StayWithin, access_at, no_access}
use Rattle.level_plan.proofs.Extents.{have_none, have_left, have_last, have_cases}
use Rattle.level_runs.specs.Accesses.{AreGlobalsOf, IsAccessOf, AreAccessesOf, ArePartsOf}
use Rattle.level_runs.specs.Programs.{code_at, no_code}

-- the extent of one global
abbrev pub alone : ℕ → Extent
alone global = record { first = global; count = 1 }

pub globals_none : (globals : ℕ) → AreGlobalsOf globals [] []
globals_none globals = record {
  within = λ k d lt. absurd (omega (arith, lt));
  each = λ g lt. (λ has. absurd (have_none g has), λ has. absurd (omega (arith, has.1)));
}

pub globals_more : (globals : ℕ) (numbers : List ℕ) (extents : List Extent) (slot : ℕ) → slot < globals → AreGlobalsOf globals numbers extents → AreGlobalsOf globals (numbers ++ slot ∷ []) (extents ++ alone slot ∷ [])
globals_more globals numbers extents slot below are = record {
  within = All-push (λ extent. EndsWithin globals extent) extents (alone slot) are.within (omega (arith, below));
  each = λ g lt. (
    λ has. ⊎_elim (λ before. Contains-append_left numbers (slot ∷ []) g ((are.each g lt).0 before))
        (λ (covers : Covers (alone slot) g). let is : slot ≡ g = omega (arith, covers.from_first, covers.before_end) in subst (λ n. Contains (numbers ++ slot ∷ []) n) is (Contains-push numbers slot)) (have_cases extents (alone slot) g has),
    λ has. ⊎_elim (λ before. have_left extents (alone slot ∷ []) g ((are.each g lt).1 before))
        (λ (is : slot ≡ g). have_last extents (alone slot) g (record { from_first = omega (arith, is); before_end = omega (arith, is) })) (Contains-push_cases numbers slot g has),
  );
}

pub globals_past : (globals : ℕ) (numbers : List ℕ) (extents : List Extent) (slot : ℕ) → (slot < globals → ⊥) → AreGlobalsOf globals numbers extents → AreGlobalsOf globals (numbers ++ slot ∷ []) extents
globals_past globals numbers extents slot past are = record {
  within = are.within;
  each = λ g lt. (
    λ has. Contains-append_left numbers (slot ∷ []) g ((are.each g lt).0 has),
    λ has. ⊎_elim (λ before. (are.each g lt).1 before) (λ (is : slot ≡ g). absurd (past (omega (arith, is, lt)))) (Contains-push_cases numbers slot g has),
  );
}

-- what is in a list, by its places
stands_in : (xs : List ℕ) (i x : ℕ) → slice_get xs i ≡ Some x → Contains xs x
stands_in xs i x is = (i, slice_get_within xs i x is, get_or_from_slice_get xs i x x is)

found_in : (xs : List ℕ) (x : ℕ) → Contains xs x → (i : ℕ) × (slice_get xs i ≡ Some x)
found_in xs x (i, within, is) = (i, slice_get_read xs (length xs) i x refl within (sym is))

-- a code writes what stands at a place that its part tells
module _ (whole : PlainCode) (part : PlainPart) (is : IsPartOf whole part) where
  written_to : (g : ℕ) → slots.Writes whole.instrs g → Contains (map (λ p. get_or part.slots p 0) part.written) g
  written_to g writes =
      let at = found_in part.written (is.slot_place g) (is.written g writes) in
      let here : get_or part.slots (is.slot_place g) 0 ≡ g = get_or_from_slice_get part.slots (is.slot_place g) g 0 (is.slots g (record { some = inr writes.some })) in
      stands_in (map (λ p. get_or part.slots p 0) part.written) at.0 g (slice_get-map (λ p. get_or part.slots p 0) part.written at.0 ∙ ap (option_map (λ p. get_or part.slots p 0)) at.1 ∙ ap Some here)

  written_from : (g : ℕ) → Contains (map (λ p. get_or part.slots p 0) part.written) g → slots.Writes whole.instrs g
  written_from g has =
      let at = found_in (map (λ p. get_or part.slots p 0) part.written) g has in
      let old = was (λ p. get_or part.slots p 0) (slice_get part.written at.0) g (sym (slice_get-map (λ p. get_or part.slots p 0) part.written at.0) ∙ at.1) in
      let there : slice_get part.slots old.0 ≡ Some g = slice_get-get_or part.slots old.0 0 (is.inside at.0 old.0 old.1) ∙ ap Some old.2 in
      is.only_written old.0 g (stands_in part.written at.0 old.0 old.1) there

-- the slots of a part, and those that its code writes
pub access_by : (globals : ℕ) (whole : PlainCode) (part : PlainPart) (reads writes : List Extent) → AreGlobalsOf globals part.slots reads → AreGlobalsOf globals (map (λ p. get_or part.slots p 0) part.written) writes
    → IsPartOf whole part → IsAccessOf globals whole.instrs (record { reads = reads; writes = writes })
access_by globals whole part reads writes all written is =
    let writing : (g : ℕ) → g < globals → HaveGlobal writes g → slots.Writes whole.instrs g = λ g lt has. written_from whole part is g ((written.each g lt).0 has) in
    let name : (g : ℕ) → Contains part.slots g → Names whole.instrs g = λ g has. let at = found_in part.slots g has in (is.only_slots at.0 g at.1).0 in
    record {
      named = λ g lt. (
        λ touches. ⊎_elim (λ read. name g ((all.each g lt).0 read)) (λ write. record { some = inr (writing g lt write).some }) touches,
        λ named. inl ((all.each g lt).1 (stands_in part.slots (is.slot_place g) g (is.slots g named))),
      );
      written = λ g lt. (λ has. writing g lt has, λ writes. (written.each g lt).1 (written_to whole part is g writes));
    }

abbrev no_part : PlainPart
no_part = record { code = no_code; slots = []; written = []; clocks = [] }

-- accesses are those of the first so many parts
pub record AreRead (globals : ℕ) (parts : List PlainPart) (count : ℕ) (accesses : List PlainAccess) : Type 0 where
  pub many : length accesses ≡ count
  pub each : (p : ℕ) (d : PlainPart) (whole : PlainCode) → p < count → IsPartOf whole (slice_index_or parts p d) → IsAccessOf globals whole.instrs (access_at accesses p)
  pub within : StayWithin globals accesses

pub read_none : (globals : ℕ) (parts : List PlainPart) → AreRead globals parts 0 []
read_none globals parts = record {
  many = refl;
  each = λ p d whole lt is. absurd (omega (arith, lt));
  within = record { each = λ k d lt. absurd (omega (arith, lt)) };
}

pub read_more : (globals : ℕ) (parts : List PlainPart) (count : ℕ) (accesses : List PlainAccess) (part : PlainPart) (access : PlainAccess) → AreRead globals parts count accesses → count < length parts → part ≡ get_or parts count part
    → StaysWithin globals access → ((whole : PlainCode) → IsPartOf whole part → IsAccessOf globals whole.instrs access) → AreRead globals parts (count + 1) (accesses ++ access ∷ [])
read_more globals parts count accesses part access are below at stays tells = record {
  many = length_push accesses access ∙ ap (λ n. n + 1) are.many;
  each = λ p d whole lt is. ⊎_elim
      (λ less. subst (λ a. IsAccessOf globals whole.instrs a) (sym (get_or_append_left accesses (access ∷ []) no_access p (omega (arith, less, are.many)))) (are.each p d whole less is))
      (λ past. let same : p ≡ count = omega (arith, past, lt) in
      let here : slice_index_or parts p d ≡ part = ap (λ n. slice_index_or parts n d) same ∙ sym (get_or_read parts count part below at d) in
      subst (λ a. IsAccessOf globals whole.instrs a) (sym (ap (λ n. slice_index_or (accesses ++ access ∷ []) n no_access) same ∙ get_or_push accesses access no_access count are.many)) (tells whole (subst (λ q. IsPartOf whole q) here is)))
      (cases_lt p count);
  within = record { each = All-push (λ a. StaysWithin globals a) accesses access (are.within).each stays };
}

-- where all parts are read, the accesses are those of the codes
pub read_all : (globals : ℕ) (parts : List PlainPart) (accesses : List PlainAccess) (codes : List PlainCode) → AreRead globals parts (length parts) accesses → ArePartsOf codes parts → AreAccessesOf globals codes accesses
read_all globals parts accesses codes are of = record {
  one_each = are.many ∙ of.one_each;
  each = λ p lt. are.each p no_part (code_at codes p) (omega (arith, lt, of.one_each)) (of.each p no_part lt);
}
