-- Rows of slots: what is in them, and that numbers which rise keep them.
use Rattle.std.proofs.Common.{◌≡◌, ◌<◌, ◌≤◌, ◌+◌, ◌-◌, ℕ, zero, suc, List, [], ◌∷◌, ◌++◌, map, get_or, Some, refl, ap, sym, ◌∙◌, subst, arith, inl, inr, Contains}
use Rattle.std.specs.Prelude.{slice_get}
use Rattle.std.specs.List.{AllByRecursion, range_with_len, flat_map}
use Rattle.std.proofs.lemmas.List.{map-append}
use Rattle.std.proofs.lemmas.List.FromFn.{length-range_with_len, get_or-range_with_len}
use Rattle.std.proofs.lemmas.List.Elements.{Contains-append_left, Contains-append_right, Contains-append_cases}
use Rattle.std.proofs.lemmas.Option.{same_Some, none-some}
use Rattle.plant_types.specs.declared.values.Bounds.{Bounds}
use Rattle.plant_types.specs.Values.{row_length}
use Rattle.acc_vm.specs.declared.instr.Instr.{Instr}
use Rattle.acc_vm.specs.declared.instr.Row.{Row}
use Rattle.acc_vm.specs.Operands.{operands, bounds_of, row_slots, rows_of, past_rows}
use Rattle.vm_slices.specs.Slots.{SomeHas, Names}
use Rattle.vm_slices.specs.Ascending.{Rises}
use Rattle.vm_slices.specs.Renaming.{KeepsRow, KeepsRows}
use Rattle.vm_slices.specs.Noting.{AreRowsOf, IsInRow, IsInRows}
use Rattle.vm_slices.proofs.Rising.{in_one_piece}
use Rattle.vm_slices.proofs.Standing.{each}

pub range_has : (first count k : ℕ) → k < count → Contains (range_with_len first count) (first + k)
range_has first count k lt = let long = length-range_with_len first count in (k, omega (arith, long, lt), get_or-range_with_len first count k (first + k) lt)

pub range_of : (first count s : ℕ) → Contains (range_with_len first count) s → (first ≤ s) × (s < first + count)
range_of first count s (k, within, e) =
    let long = length-range_with_len first count in
    let lt : k < count = omega (arith, long, within) in
    let at : get_or (range_with_len first count) k s ≡ first + k = get_or-range_with_len first count k s lt in
    (omega (arith, at, e), omega (arith, at, e, lt))

-- a slot of a row is among those of rows
row_has : (bounds : Bounds) (firsts : List ℕ) (first k : ℕ) → Contains firsts first → k < row_length bounds → Contains (row_slots bounds firsts) (first + k)
row_has bounds [] first k (i, within, e) lt = absurd (omega (arith, within))
row_has bounds (x ∷ firsts) first k (zero, within, e) lt =
    Contains-append_left (range_with_len x (row_length bounds)) (row_slots bounds firsts) (first + k) (subst (λ (y : ℕ). Contains (range_with_len y (row_length bounds)) (first + k)) (sym e) (range_has first (row_length bounds) k lt))
row_has bounds (x ∷ firsts) first k (suc i, within, e) lt =
    Contains-append_right (range_with_len x (row_length bounds)) (row_slots bounds firsts) (first + k) (row_has bounds firsts first k (i, omega (arith, within), e) lt)

-- the slots of rows are those that are in some row
pub in_some_row : (bounds : Bounds) (firsts : List ℕ) (s : ℕ) → Contains (row_slots bounds firsts) s → IsInRows (rows_of bounds firsts) s
in_some_row bounds [] s (i, within, e) = absurd (omega (arith, within))
in_some_row bounds (x ∷ firsts) s has = elim (Contains-append_cases (range_with_len x (row_length bounds)) (row_slots bounds firsts) s has) [
  | inl here ↦
      let r : Row = record { first = x; past = x + row_length bounds } in
      (r, (0, omega arith, refl), range_of x (row_length bounds) s here)
  | inr later ↦
      let rest = in_some_row bounds firsts s later in
      (rest.0, Contains-append_right (record { first = x; past = x + row_length bounds } ∷ []) (rows_of bounds firsts) rest.0 rest.1, rest.2)
]

pub from_row : (bounds : Bounds) (firsts : List ℕ) (s : ℕ) (r : Row) → Contains (rows_of bounds firsts) r → IsInRow r s → Contains (row_slots bounds firsts) s
from_row bounds [] s r (i, within, e) is = absurd (omega (arith, within))
from_row bounds (x ∷ firsts) s r (zero, within, e) is =
    let n = row_length bounds in
    let first : x ≡ r.first = ap (λ (r : Row). r.first) e in
    let past : x + n ≡ r.past = ap (λ (r : Row). r.past) e in
    let low = is.0 in
    let high = is.1 in
    let k = s - x in
    let same : x + k ≡ s = omega (arith, first, low) in
    Contains-append_left (range_with_len x n) (row_slots bounds firsts) s (subst (Contains (range_with_len x n)) same (range_has x n k (omega (arith, first, past, low, high))))
from_row bounds (x ∷ firsts) s r (suc i, within, e) is =
    Contains-append_right (range_with_len x (row_length bounds)) (row_slots bounds firsts) s (from_row bounds firsts s r (i, omega (arith, within), e) is)

-- a row of some ends no later than all of them
pub row_ends : (rows : List Row) (r : Row) → Contains rows r → r.past ≤ past_rows rows
row_ends [] r (i, within, e) = absurd (omega (arith, within))
row_ends (x ∷ rows) r (zero, within, e) = let same : x.past ≡ r.past = ap (λ (r : Row). r.past) e in omega (arith, same)
row_ends (x ∷ rows) r (suc i, within, e) = let rest = row_ends rows r (i, omega (arith, within), e) in omega (arith, rest)

-- what a rule tells of instructions, one after another
pub flat_has : {A : Type 0} (f : Instr → List A) (code : List Instr) (x : A) → SomeHas f code x → Contains (flat_map f code) x
flat_has f [] x (pc, i, at, has) = absurd (none-some _ at)
flat_has f (i ∷ code) x (zero, j, at, has) = Contains-append_left (f i) (flat_map f code) x (subst (λ j. Contains (f j) x) (sym (same_Some i j at)) has)
flat_has f (i ∷ code) x (suc pc, j, at, has) = Contains-append_right (f i) (flat_map f code) x (flat_has f code x (pc, j, at, has))

pub has_flat : {A : Type 0} (f : Instr → List A) (code : List Instr) (x : A) → Contains (flat_map f code) x → SomeHas f code x
has_flat f [] x (i, within, e) = absurd (omega (arith, within))
has_flat f (i ∷ code) x has = elim (Contains-append_cases (f i) (flat_map f code) x has) [
  | inl here ↦ (0, i, refl, here)
  | inr later ↦ let t = has_flat f code x later in (suc t.0, t.1, t.2, t.3)
]

-- the rows that were collected from instructions, whatever their order
pub rows_are : (rule : Instr → List Row) (instrs : List Instr) (found rows : List Row) → found ≡ flat_map rule instrs → ((r : Row) → (Contains rows r → Contains found r) × (Contains found r → Contains rows r)) → AreRowsOf rule instrs rows
rows_are rule instrs found rows is same = record {
  all = λ r some. (same r).1 (subst (λ (l : List Row). Contains l r) (sym is) (flat_has rule instrs r some));
  only = λ r has. has_flat rule instrs r (subst (λ (l : List Row). Contains l r) is ((same r).0 has));
}

-- a row by other numbers, which keep it
moved_row : (f : ℕ → ℕ) (first n : ℕ) → KeepsRow f first n → range_with_len (f first) n ≡ map f (range_with_len first n)
moved_row f first zero keeps = refl
moved_row f first (suc zero) keeps = refl
moved_row f first (suc (suc n)) keeps =
    let next : f (first + 1) ≡ f first + 1 = keeps 1 (omega arith) in
    let rest : KeepsRow f (first + 1) (suc n)
    = λ k lt. (let e : first + 1 + k ≡ first + suc k = omega arith in let whole = keeps (suc k) (omega (arith, lt)) in let same : f first + suc k ≡ f (first + 1) + k = omega (arith, next) in ap f e ∙ whole ∙ same) in
    ap (λ l. f first ∷ l) (ap (λ m. range_with_len m (suc n)) (sym next) ∙ moved_row f (first + 1) (suc n) rest)

moved_rows : (f : ℕ → ℕ) (bounds : Bounds) (firsts : List ℕ) → AllByRecursion (λ first. KeepsRow f first (row_length bounds)) firsts → row_slots bounds (map f firsts) ≡ map f (row_slots bounds firsts)
moved_rows f bounds [] keeps = refl
moved_rows f bounds (first ∷ firsts) keeps =
    (λ i. moved_row f first (row_length bounds) keeps.0 i ++ moved_rows f bounds firsts keeps.1 i) ∙ sym (map-append f (range_with_len first (row_length bounds)) (row_slots bounds firsts))

pub moved_slots : (f : ℕ → ℕ) (bounds : Bounds) (alone firsts : List ℕ) → AllByRecursion (λ first. KeepsRow f first (row_length bounds)) firsts → map f alone ++ row_slots bounds (map f firsts) ≡ map f (alone ++ row_slots bounds firsts)
moved_slots f bounds alone firsts keeps = ap (λ l. map f alone ++ l) (moved_rows f bounds firsts keeps) ∙ sym (map-append f alone (row_slots bounds firsts))

-- places among slots that rise keep the rows of the instructions that name them
module _ (code : List Instr) (slots : List ℕ) (rise : Rises slots) (place : ℕ → ℕ) (there : (s : ℕ) → Names code s → slice_get slots (place s) ≡ Some s) where
  pub rows_kept : (pc : ℕ) (i : Instr) → slice_get code pc ≡ Some i → KeepsRows place (operands i)
  rows_kept pc i at =
      let o = operands i in
      let bounds = bounds_of o in
      let named : (first k : ℕ) → Contains (o.rows_read ++ o.rows_written) first → k < row_length bounds → Names code (first + k)
      = λ first k has lt. elim (Contains-append_cases o.rows_read o.rows_written first has) [
        | inl read ↦ record { some = inl (pc, i, at, Contains-append_right o.reads (row_slots bounds o.rows_read) (first + k) (row_has bounds o.rows_read first k read lt)) }
        | inr write ↦ record { some = inr (pc, i, at, Contains-append_right o.writes (row_slots bounds o.rows_written) (first + k) (row_has bounds o.rows_written first k write lt)) }
      ] in
      each (λ first. KeepsRow place first (row_length bounds)) (o.rows_read ++ o.rows_written) (λ first has. in_one_piece slots rise place first (row_length bounds) (λ k lt. there (first + k) (named first k has lt)))
