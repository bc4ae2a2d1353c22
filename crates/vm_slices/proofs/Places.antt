-- Numbers that are noted once each.
use Rattle.std.proofs.Common.{◌≡◌, ◌≢◌, ◌<◌, ◌≤◌, ◌+◌, ℕ, zero, suc, List, [], ◌∷◌, ◌++◌, length, get_or, set, Some, refl, ap, sym, ◌∙◌, subst, arith, inl, inr, ◌⊎◌, ⊎_elim, Contains, length-append, get_or-set_same, get_or-set_other}
use Rattle.std.specs.Prelude.{slice_get, Option, None}
use Rattle.std.specs.List.{AllByRecursion}
use Rattle.std.proofs.lemmas.Bool.{cases_lt, ne_eqb, eqb-true}
use Rattle.std.proofs.Math.Dec.{eqb}
use Rattle.std.proofs.lemmas.List.{length-set}
use Rattle.std.proofs.lemmas.List.Elements.{Contains-append_left, Contains-append_right, Contains-append_cases}
use Rattle.std.proofs.lemmas.Option.{same_Some, slice_get_within, slice_get-get_or, get_or_from_slice_get}
use Rattle.std.specs.List.{IsDistinct}
use Rattle.std.proofs.lemmas.Map.Keys.{IsDistinct-from_apart}
use Rattle.std.proofs.lemmas.Map.Steps.{length-le_from_distinct_below}
use Rattle.std.proofs.lemmas.Map.Views.{Contains-from_any}
use Rattle.acc_vm.specs.declared.instr.Instr.{Instr}
use Rattle.acc_vm.specs.declared.instr.Row.{Row}
use Rattle.acc_vm.proofs.Table.{past_append, past_rows_are}
use Rattle.vm_slices.specs.Slots.{SomeHas}
use Rattle.acc_vm.specs.Operands.{operands, bounds_of, row_slots, rows_of, past_all, listed}
use Rattle.vm_slices.specs.Noting.{IsNoted, AreOnce, Notes, AreRowsOf, IsInRow, IsInRows}
use Rattle.vm_slices.proofs.Rising.{stands_at, has_at}
use Rattle.vm_slices.proofs.RowLaws.{in_some_row, from_row, row_ends}

pub get_left : {A : Type 0} (xs ys : List A) (i : ℕ) (x : A) → slice_get xs i ≡ Some x → slice_get (xs ++ ys) i ≡ Some x
get_left [] ys i x h = absurd (cc)
get_left (y ∷ xs) ys zero x h = h
get_left (y ∷ xs) ys (suc i) x h = get_left xs ys i x h

-- the item behind a list
get_last : {A : Type 0} (xs : List A) (x : A) → slice_get (xs ++ x ∷ []) (length xs) ≡ Some x
get_last [] x = refl
get_last (y ∷ xs) x = get_last xs x

-- what stands in a list with one more item
pub split_last : {A : Type 0} (xs : List A) (x y : A) (i : ℕ) → slice_get (xs ++ x ∷ []) i ≡ Some y → (slice_get xs i ≡ Some y) ⊎ ((i ≡ length xs) × (x ≡ y))
split_last [] x y zero at = inr (refl, same_Some x y at)
split_last [] x y (suc i) at = absurd (cc)
split_last (z ∷ xs) x y zero at = inl at
split_last (z ∷ xs) x y (suc i) at = elim (split_last xs x y i at) [
  | inl has ↦ inl has
  | inr last ↦ inr (ap suc last.0, last.1)
]

pub notes_none : (Named : ℕ → Type 0) (places numbers : List ℕ) → ((s : ℕ) → Named s → IsNoted places numbers s) → Notes Named places numbers places numbers
notes_none Named places numbers h = record { size = refl; kept = λ i s at. at; lasts = λ s has. has; all = h; only = λ i s at. inl at; once = λ o. o }

module _ (places numbers : List ℕ) (s : ℕ) (within : s < length places) (new : IsNoted places numbers s → ⊥) where
  once_more : AreOnce places numbers → AreOnce (set places s (length numbers)) (numbers ++ s ∷ [])
  once_more once = λ i r at. let long = length-set places s (length numbers) in elim (split_last numbers s r i at) [
    | inl had ↦
        let place = once i r had in let inside = place.0 in
        let ne : r ≢ s = (λ e. new (subst (IsNoted places numbers) e (ap (slice_get numbers) place.1 ∙ had))) in
        (omega arith, get_or-set_other places s r (length numbers) 0 ne ∙ place.1)
    | inr last ↦ let e = last.1 in (omega arith, ap (λ r. get_or (set places s (length numbers)) r 0) (sym last.1) ∙ get_or-set_same places s (length numbers) 0 within ∙ sym last.0)
  ]

  pub notes_one : Notes (λ r. r ≡ s) places numbers (set places s (length numbers)) (numbers ++ s ∷ [])
  notes_one = record {
    size = length-set places s (length numbers);
    kept = λ i r at. get_left numbers (s ∷ []) i r at;
    lasts = λ r has.
        let ne : r ≢ s = (λ e. new (subst (IsNoted places numbers) e has)) in
        ap (slice_get (numbers ++ s ∷ [])) (get_or-set_other places s r (length numbers) 0 ne) ∙ get_left numbers (s ∷ []) (get_or places r 0) r has;
    all = λ r e. subst (IsNoted (set places s (length numbers)) (numbers ++ s ∷ [])) (sym e) (ap (slice_get (numbers ++ s ∷ [])) (get_or-set_same places s (length numbers) 0 within) ∙ get_last numbers s);
    only = λ i r at. elim (split_last numbers s r i at) [ inl had ↦ inl had | inr last ↦ inr (sym last.1) ];
    once = once_more;
  }

-- numbers that are noted once each are different
pub noted_distinct : (places numbers : List ℕ) → AreOnce places numbers → IsDistinct eqb numbers
noted_distinct places numbers once =
    IsDistinct-from_apart eqb numbers (λ i j d lt within. ne_eqb (get_or numbers i d) (get_or numbers j d) (λ e.
    let one = once i (get_or numbers i d) (slice_get-get_or numbers i d (omega arith)) in
    let other = once j (get_or numbers j d) (slice_get-get_or numbers j d within) in
    let same : i ≡ j = sym one.1 ∙ ap (λ s. get_or places s 0) e ∙ other.1 in omega arith))

-- so they are no more than the table has places
room : (places numbers : List ℕ) → AreOnce places numbers → length numbers ≤ length places
room places numbers once =
    length-le_from_distinct_below numbers (length places) (noted_distinct places numbers once)
    (λ q any. let has = Contains-from_any eqb-true q numbers any in (once has.0 q (slice_get-get_or numbers has.0 q has.1 ∙ ap Some has.2)).0)

-- where one more is to be noted there is room for it
pub room_more : (places numbers : List ℕ) (s : ℕ) → AreOnce places numbers → s < length places → (IsNoted places numbers s → ⊥) → length numbers < length places
room_more places numbers s once within new =
    let more = room (set places s (length numbers)) (numbers ++ s ∷ []) (once_more places numbers s within new once) in
    let long = length-set places s (length numbers) in
    let longer = length-append numbers (s ∷ []) in
    omega arith

pub notes_more : (P Q R : ℕ → Type 0) (a m b n c o : List ℕ) → Notes P a m b n → Notes Q b n c o → ((s : ℕ) → R s → P s ⊎ Q s) → ((s : ℕ) → P s → R s) → ((s : ℕ) → Q s → R s) → Notes R a m c o
notes_more P Q R a m b n c o p q split left right = record {
  size = q.size ∙ p.size;
  kept = λ i s at. q.kept i s (p.kept i s at);
  lasts = λ s has. q.lasts s (p.lasts s has);
  all = λ s r. elim (split s r) [ inl h ↦ q.lasts s (p.all s h) | inr h ↦ q.all s h ];
  only = λ i s at. elim (q.only i s at) [
    | inl had ↦ elim (p.only i s had) [ inl was ↦ inl was | inr h ↦ inr (left s h) ]
    | inr h ↦ inr (right s h)
  ];
  once = λ h. q.once (p.once h);
}

-- among the first instructions one has a number
pub record HasBelow (f : Instr → List ℕ) (code : List Instr) (n s : ℕ) : Type 0 where
  pub pc : ℕ
  pub i : Instr
  pub below : pc < n
  pub at : slice_get code pc ≡ Some i
  pub has : Contains (f i) s

module _ (f : Instr → List ℕ) (code : List Instr) where
  pub below_some : (s : ℕ) → HasBelow f code (length code) s → SomeHas f code s
  below_some s h = (h.pc, h.i, h.at, h.has)

  pub some_below : (s : ℕ) → SomeHas f code s → HasBelow f code (length code) s
  some_below s h = record { pc = h.0; i = h.1; below = slice_get_within code h.0 h.1 h.2; at = h.2; has = h.3 }

  pub notes_start : (places numbers : List ℕ) → Notes (HasBelow f code 0) places numbers places numbers
  notes_start places numbers = notes_none (HasBelow f code 0) places numbers (λ s h. let lt = h.below in absurd (omega arith))

  pub notes_next : (n : ℕ) (i : Instr) (a m b k c o : List ℕ) → slice_get code n ≡ Some i → Notes (HasBelow f code n) a m b k → Notes (Contains (f i)) b k c o → Notes (HasBelow f code (n + 1)) a m c o
  notes_next n i a m b k c o here first next =
      notes_more (HasBelow f code n) (Contains (f i)) (HasBelow f code (n + 1)) a m b k c o first next
      (λ s h. elim (cases_lt h.pc n) [
        | inl low ↦ inl (record { pc = h.pc; i = h.i; below = low; at = h.at; has = h.has })
        | inr high ↦
            let lt = h.below in let e : h.pc ≡ n = omega arith in
            let same : h.i ≡ i = same_Some h.i i (sym h.at ∙ ap (slice_get code) e ∙ here) in
            inr (subst (λ i. Contains (f i) s) same h.has)
      ])
      (λ s h. let lt = h.below in record { pc = h.pc; i = h.i; below = omega arith; at = h.at; has = h.has })
      (λ s h. record { pc = n; i = i; below = omega arith; at = here; has = h })

  pub notes_done : (n : ℕ) (a m b k : List ℕ) → n ≤ length code → length code ≤ n → Notes (HasBelow f code n) a m b k → Notes (SomeHas f code) a m b k
  notes_done n a m b k low high was =
      let end : n ≡ length code = omega arith in
      let h : Notes (HasBelow f code (length code)) a m b k = subst (λ n. Notes (HasBelow f code n) a m b k) end was in
      record { size = h.size; kept = h.kept; lasts = h.lasts; all = λ s some. h.all s (some_below s some); only = λ i s at. ⊎_elim (λ had. inl had) (λ (has : HasBelow f code (length code) s). inr (below_some s has)) (h.only i s at); once = h.once }

-- of two numbers that may be there
pub both_listed : (P : ℕ → Type 0) (a b : Option ℕ) → AllByRecursion P (listed a ++ listed b) → AllByRecursion P (listed a) × AllByRecursion P (listed b)
both_listed P None None h = (tt, tt)
both_listed P None (Some y) h = (tt, h)
both_listed P (Some x) None h = (h, tt)
both_listed P (Some x) (Some y) h = ((h.0, tt), h.1)

pub notes_both : (xs ys zs a m b n c o : List ℕ) → xs ++ ys ≡ zs → Notes (Contains xs) a m b n → Notes (Contains ys) b n c o → Notes (Contains zs) a m c o
notes_both xs ys zs a m b n c o e p q =
    subst (λ zs. Notes (Contains zs) a m c o) e
    (notes_more (Contains xs) (Contains ys) (Contains (xs ++ ys)) a m b n c o p q (λ s h. Contains-append_cases xs ys s h) (λ s h. Contains-append_left xs ys s h) (λ s h. Contains-append_right xs ys s h))

-- whether a number is noted, by what stands at its place
pub past_noted : (numbers : List ℕ) (place s : ℕ) → length numbers ≤ place → slice_get numbers place ≡ Some s → ⊥
past_noted numbers place s past at = let within = slice_get_within numbers place s at in omega arith

pub tells_noted : (numbers : List ℕ) (place s : ℕ) → place < length numbers → (get_or numbers place 0 ≡ s → slice_get numbers place ≡ Some s) × (slice_get numbers place ≡ Some s → get_or numbers place 0 ≡ s)
tells_noted numbers place s within = (λ e. slice_get-get_or numbers place 0 within ∙ ap Some e, λ at. get_or_from_slice_get numbers place s 0 at)

-- the first slots of a row
abbrev pub IsBelow : Row → (end : ℕ) → ℕ → Type 0
IsBelow row end s = IsInRow row s × (s < end)

pub row_start : (row : Row) (places numbers : List ℕ) → Notes (IsBelow row row.first) places numbers places numbers
row_start row places numbers = notes_none (IsBelow row row.first) places numbers (λ s h. let low = h.0.0 in let high = h.1 in absurd (omega arith))

pub row_next : (row : Row) (slot : ℕ) (a m b k c o : List ℕ) → row.first ≤ slot → slot < row.past → Notes (IsBelow row slot) a m b k → Notes (λ s. s ≡ slot) b k c o → Notes (IsBelow row (slot + 1)) a m c o
row_next row slot a m b k c o low high first next =
    notes_more (IsBelow row slot) (λ s. s ≡ slot) (IsBelow row (slot + 1)) a m b k c o first next
    (λ s h. let less = h.1 in elim (cases_lt s slot) [ inl below ↦ inl (h.0, below) | inr above ↦ inr (omega arith) ])
    (λ s h. let less = h.1 in (h.0, omega arith))
    (λ s e. ((omega arith, omega arith), omega arith))

pub row_done : (row : Row) (slot : ℕ) (a m b k : List ℕ) → row.past ≤ slot → Notes (IsBelow row slot) a m b k → Notes (IsInRow row) a m b k
row_done row slot a m b k high was = record {
  size = was.size;
  kept = was.kept;
  lasts = was.lasts;
  all = λ s h. let less = h.1 in was.all s (h, omega arith);
  only = λ i s at. ⊎_elim (λ had. inl had) (λ (h : IsBelow row slot s). inr h.0) (was.only i s at);
  once = was.once;
}

-- the slots of the first rows
pub record IsInFirst (rows : List Row) (n s : ℕ) : Type 0 where
  pub place : ℕ
  pub row : Row
  pub below : place < n
  pub at : slice_get rows place ≡ Some row
  pub is : IsInRow row s

pub rows_start : (rows : List Row) (places numbers : List ℕ) → Notes (IsInFirst rows 0) places numbers places numbers
rows_start rows places numbers = notes_none (IsInFirst rows 0) places numbers (λ s h. let lt = h.below in absurd (omega arith))

pub rows_next : (rows : List Row) (n : ℕ) (row : Row) (a m b k c o : List ℕ) → slice_get rows n ≡ Some row → Notes (IsInFirst rows n) a m b k → Notes (IsInRow row) b k c o → Notes (IsInFirst rows (n + 1)) a m c o
rows_next rows n row a m b k c o here first next =
    notes_more (IsInFirst rows n) (IsInRow row) (IsInFirst rows (n + 1)) a m b k c o first next
    (λ s h. elim (cases_lt h.place n) [
      | inl low ↦ inl (record { place = h.place; row = h.row; below = low; at = h.at; is = h.is })
      | inr high ↦
          let lt = h.below in let e : h.place ≡ n = omega arith in
          let same : h.row ≡ row = same_Some h.row row (sym h.at ∙ ap (slice_get rows) e ∙ here) in
          inr (subst (λ (r : Row). IsInRow r s) same h.is)
    ])
    (λ s h. let lt = h.below in record { place = h.place; row = h.row; below = omega arith; at = h.at; is = h.is })
    (λ s h. record { place = n; row = row; below = omega arith; at = here; is = h })

pub rows_done : (rows : List Row) (n : ℕ) (a m b k : List ℕ) → length rows ≤ n → Notes (IsInFirst rows n) a m b k → Notes (IsInRows rows) a m b k
rows_done rows n a m b k high was = record {
  size = was.size;
  kept = was.kept;
  lasts = was.lasts;
  all = λ s h. let at = stands_at rows h.0 h.1 in let within = slice_get_within rows at.0 h.0 at.1 in was.all s (record { place = at.0; row = h.0; below = omega arith; at = at.1; is = h.2 });
  only = λ i s at. ⊎_elim (λ had. inl had) (λ (h : IsInFirst rows n s). inr (h.row, has_at rows h.place h.row h.at, h.is)) (was.only i s at);
  once = was.once;
}

-- the slots that a rule tells of instructions, where those of their rows were noted behind the others
module _ (alone first : Instr → List ℕ) (code : List Instr) (rows : List Row) (are : AreRowsOf (λ i. rows_of (bounds_of (operands i)) (first i)) code rows) where
  abbrev whole : Instr → List ℕ
  whole i = alone i ++ row_slots (bounds_of (operands i)) (first i)

  pub with_rows : (a m b k c o : List ℕ) → Notes (SomeHas alone code) a m b k → Notes (IsInRows rows) b k c o → Notes (SomeHas (λ i. alone i ++ row_slots (bounds_of (operands i)) (first i)) code) a m c o
  with_rows a m b k c o one other =
      notes_more (SomeHas alone code) (IsInRows rows) (SomeHas whole code) a m b k c o one other
      (λ s h.
      let i = h.1 in
      let bounds = bounds_of (operands i) in
      elim (Contains-append_cases (alone i) (row_slots bounds (first i)) s h.3) [
        | inl here ↦ inl (h.0, i, h.2, here)
        | inr in_row ↦ let some = in_some_row bounds (first i) s in_row in inr (some.0, are.all some.0 (h.0, i, h.2, some.1), some.2)
      ])
      (λ s h. (h.0, h.1, h.2, Contains-append_left (alone h.1) (row_slots (bounds_of (operands h.1)) (first h.1)) s h.3))
      (λ s h.
      let some = are.only h.0 h.1 in
      let i = some.1 in
      (some.0, i, some.2, Contains-append_right (alone i) (row_slots (bounds_of (operands i)) (first i)) s (from_row (bounds_of (operands i)) (first i) s h.0 some.3 h.2)))

  -- rows end where the slots do
  pub rows_within : (n : ℕ) → ((pc : ℕ) (i : Instr) → slice_get code pc ≡ Some i → past_all (alone i ++ row_slots (bounds_of (operands i)) (first i)) ≤ n) → (r : Row) → Contains rows r → r.past ≤ n
  rows_within n few r has =
      let some = are.only r has in
      let i = some.1 in
      let bounds = bounds_of (operands i) in
      let ends = row_ends (rows_of bounds (first i)) r some.3 in
      let same = past_rows_are bounds (first i) in
      let both = past_append (alone i) (row_slots bounds (first i)) in
      let within = few some.0 i some.2 in
      omega (arith, ends, same, both, within)
