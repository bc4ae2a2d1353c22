-- One alarm has another code: each count is again that of the rows.
use Rattle.std.proofs.Common.{◌≡◌, ℕ, ◌+◌, ◌-◌, ◌^◌, ◌<◌, ◌≤◌, ◌==◌, ◌⊎◌, inl, inr, Bool, true, false, cond, List, [], ◌∷◌, length, All, count_by, slice_index, slice_index_or, slice_set, arith, refl, ap, sym, ◌∙◌, length-set, length-append, length-take, take, lit<, ◌++◌, replicate}
use Rattle.std.specs.List.{AllByRecursion}
use Rattle.std.proofs.lemmas.Bool.Decides.{nat_tests, eqb_tells}
use Rattle.std.proofs.lemmas.List.{get_or-set_same, get_or-set_other, get_or_default, get_or-replicate, length-replicate, take_more}
use Rattle.std.proofs.lemmas.List.Sums.{sum_by-set, sum_by_push, sum_by-cons, get_or-le-sum_by, count_by-le-length}
use Rattle.std.proofs.lemmas.List.Elements.{All-get_or, All-set, All-push, recursion_from_All}
use Rattle.alarm_machine.specs.declared.states.Code.{Code}
use Rattle.alarm_machine.specs.declared.states.Code.TheVariants as code
use Rattle.alarm_machine.specs.Codes.{rank}
use Rattle.alarm_counts.specs.declared.counted.Counted.{Counted}
use Rattle.alarm_counts.specs.Counts.{is_of, count_of, no_row, cell, HasCell, AreCounts}

-- 1 where a test holds
abbrev one_if : Bool → ℕ
one_if b = cond b 1 0

pub rank_below : (c : Code) → rank c < 9
rank_below code.Norm = lit< tt
rank_below code.Unack = lit< tt
rank_below code.Acked = lit< tt
rank_below code.Rtnun = lit< tt
rank_below code.Latun = lit< tt
rank_below code.Latak = lit< tt
rank_below code.Shelved = lit< tt
rank_below code.Suppr = lit< tt
rank_below code.Oos = lit< tt

-- a row is counted in its own cell alone
pub is_of_cell : (area priority : ℕ) (c : Code) (row : Counted) (cells : ℕ) → HasCell cells row → 1 ≤ priority → priority ≤ 4 →
    is_of area priority c row ≡ (cell row.area row.priority row.code == cell area priority c)
is_of_cell area priority c row cells h low high =
    let r : rank c < 9 = rank_below c in
    let q : rank row.code < 9 = rank_below row.code in
    elim (eqb_tells (cell row.area row.priority row.code) (cell area priority c)) [
      | inl same ↦
          let a : row.area ≡ area = omega (arith, same.1, h.low, h.high) in
          let p : row.priority ≡ priority = omega (arith, same.1, h.low, h.high) in
          let k : rank row.code ≡ rank c = omega (arith, same.1, h.low, h.high) in
          grind (arith, nat_tests)
      | inr other ↦ grind (arith, nat_tests)
    ]

-- none is counted where no row passes
count_none : (p : Counted → Bool) (P : Counted → Type 0) (rows : List Counted) → AllByRecursion P rows → ((row : Counted) → P row → p row ≡ false) → 0 ≡ count_by p rows
count_none p P [] h off = refl
count_none p P (x ∷ xs) h off =
    let z : one_if (p x) ≡ 0 = ap one_if (off x h.0) in
    let r : 0 ≡ count_by p xs = count_none p P xs h.1 off in
    omega (arith, sum_by-cons (λ y. one_if (p y)) x xs, z, r)

pub no_priority : (area priority : ℕ) (c : Code) (cells : ℕ) (rows : List Counted) → All (HasCell cells) rows → (priority ≡ 0) ⊎ (4 < priority) → 0 ≡ count_of area priority c rows
no_priority area priority c cells rows h out =
    count_none (is_of area priority c) (HasCell cells) rows (recursion_from_All (HasCell cells) rows h)
    (λ row has. let low = has.low in let high = has.high in elim out [ inl z ↦ grind (arith, nat_tests) | inr z ↦ grind (arith, nat_tests) ])

pub no_area : (area priority : ℕ) (c : Code) (cells : ℕ) (rows : List Counted) → All (HasCell cells) rows → 1 ≤ priority → priority ≤ 4 → cells ≤ cell area priority c → 0 ≡ count_of area priority c rows
no_area area priority c cells rows h low high out =
    count_none (is_of area priority c) (HasCell cells) rows (recursion_from_All (HasCell cells) rows h)
    (λ row has. let in_area = has.area in let r : rank c < 9 = rank_below c in
    elim (eqb_tells row.area area) [ inl same ↦ absurd (omega (arith, same.1)) | inr other ↦ grind (arith, nat_tests) ])

-- one less at a place and one more at another
moved : (counts : List ℕ) (from to k low high : ℕ) → from < length counts → to < length counts → low ≡ slice_index counts from → 1 ≤ low → high ≡ slice_index (slice_set counts from (low - 1)) to →
    slice_index (slice_set (slice_set counts from (low - 1)) to (high + 1)) k + cond (from == k) 1 0 ≡ slice_index counts k + cond (to == k) 1 0
moved counts from to k low high from_in to_in low_is some high_is =
    let same : slice_index (slice_set counts from (low - 1)) from ≡ low - 1 = get_or-set_same counts from (low - 1) 0 from_in in
    let to_in' : to < length (slice_set counts from (low - 1)) = omega (arith, length-set counts from (low - 1)) in
    elim (eqb_tells to k) [
      | inl t ↦ rw t.0 (rw (sym t.1) (rw (get_or-set_same (slice_set counts from (low - 1)) to (high + 1) 0 to_in')
          (elim (eqb_tells from to) [
            | inl f ↦ rw f.0 (let h : high ≡ low - 1 = high_is ∙ rw (sym f.1) same in let g : slice_index counts to ≡ low = rw (sym f.1) (sym low_is) in omega (arith, h, g))
            | inr f ↦ rw f.0 (let h : high ≡ slice_index counts to = high_is ∙ get_or-set_other counts from to (low - 1) 0 (λ e. f.1 (sym e)) in omega (arith, h))
          ])))
      | inr t ↦ rw t.0 (rw (get_or-set_other (slice_set counts from (low - 1)) to k (high + 1) 0 (λ e. t.1 (sym e)))
          (elim (eqb_tells from k) [
            | inl f ↦ rw f.0 (let h : slice_index (slice_set counts from (low - 1)) k ≡ low - 1 = rw (sym f.1) same in let g : slice_index counts k ≡ low = rw (sym f.1) (sym low_is) in omega (arith, h, g))
            | inr f ↦ rw f.0 (let h : slice_index (slice_set counts from (low - 1)) k ≡ slice_index counts k = get_or-set_other counts from k (low - 1) 0 (λ e. f.1 (sym e)) in omega (arith, h))
          ]))
    ]

-- where a row is counted
pub cell_in : (row : Counted) (c : Code) (cells : ℕ) → HasCell cells row → cell row.area row.priority c < cells
cell_in row c cells h = let r : rank c < 9 = rank_below c in omega (arith, h.low, h.high, h.area)

is_of_self : (row : Counted) → is_of row.area row.priority row.code row ≡ true
is_of_self row = grind (arith, nat_tests)

-- a row is counted in its own cell
pub counted_once : (rows : List Counted) (counts : List ℕ) (at : ℕ) (row : Counted) → at < length rows → row ≡ slice_index_or rows at no_row → AreCounts rows counts →
    (1 ≤ slice_index counts (cell row.area row.priority row.code)) × (slice_index counts (cell row.area row.priority row.code) < 2 ^ 32)
counted_once rows counts at row within is a =
    let has : HasCell (length counts) row = rw is (All-get_or (HasCell (length counts)) rows at no_row within a.kept) in
    let e : slice_index counts (cell row.area row.priority row.code) ≡ count_of row.area row.priority row.code rows = a.each row.area row.priority row.code has.low has.high (cell_in row row.code (length counts) has) in
    let s = get_or-le-sum_by (λ r. one_if (is_of row.area row.priority row.code r)) rows at no_row within in
    let self : one_if (is_of row.area row.priority row.code (slice_index_or rows at no_row)) ≡ 1 = rw (← is) (ap one_if (is_of_self row)) in
    let most = count_by-le-length (is_of row.area row.priority row.code) rows in
    let few = a.few in
    (omega (arith, e, s, self), omega (arith, e, most, few))

pub tally : (rows : List Counted) (counts : List ℕ) (at : ℕ) (c : Code) (row : Counted) → at < length rows → row ≡ slice_index_or rows at no_row → AreCounts rows counts →
    (low high : ℕ) → low ≡ slice_index counts (cell row.area row.priority row.code) → high ≡ slice_index (slice_set counts (cell row.area row.priority row.code) (low - 1)) (cell row.area row.priority c) →
    AreCounts (slice_set rows at (record row { code = c })) (slice_set (slice_set counts (cell row.area row.priority row.code) (low - 1)) (cell row.area row.priority c) (high + 1))
tally rows counts at c row within is a low high low_is high_is =
    let has : HasCell (length counts) row = rw is (All-get_or (HasCell (length counts)) rows at no_row within a.kept) in
    let from_in : cell row.area row.priority row.code < length counts = cell_in row row.code (length counts) has in
    let to_in : cell row.area row.priority c < length counts = cell_in row c (length counts) has in
    let some : 1 ≤ low = rw low_is ((counted_once rows counts at row within is a).0) in
    let cells : length (slice_set (slice_set counts (cell row.area row.priority row.code) (low - 1)) (cell row.area row.priority c) (high + 1)) ≡ length counts
    = length-set (slice_set counts (cell row.area row.priority row.code) (low - 1)) (cell row.area row.priority c) (high + 1) ∙ length-set counts (cell row.area row.priority row.code) (low - 1) in
    let new : Counted = record row { code = c } in
    let has_new : HasCell (length counts) new = record { low = has.low; high = has.high; area = has.area } in
    record {
      few = omega (arith, length-set rows at new, a.few);
      kept = rw cells (All-set (HasCell (length counts)) rows at new has_new a.kept);
      each = λ area priority d p₁ p₄ k_in.
          let m = moved counts (cell row.area row.priority row.code) (cell row.area row.priority c) (cell area priority d) low high from_in to_in low_is some high_is in
          let old : slice_index counts (cell area priority d) ≡ count_of area priority d rows = a.each area priority d p₁ p₄ (rw cells at k_in) in
          let s = sum_by-set (λ r. one_if (is_of area priority d r)) rows at new no_row within in
          let f : one_if (is_of area priority d (slice_index_or rows at no_row)) ≡ one_if (cell row.area row.priority row.code == cell area priority d) = rw (← is) (ap one_if (is_of_cell area priority d row (length counts) has p₁ p₄)) in
          let t : one_if (is_of area priority d new) ≡ one_if (cell row.area row.priority c == cell area priority d) = ap one_if (is_of_cell area priority d new (length counts) has_new p₁ p₄) in
          omega (arith, m, old, s, f, t);
    }

-- the same with what is read on the way: a row, and the counts before each write
pub read_row : (rows : List Counted) (at : ℕ) (row : Counted) → at < length rows → row ≡ slice_index_or rows at row → row ≡ slice_index_or rows at no_row
read_row rows at row within is = is ∙ get_or_default rows at row no_row within

pub some_before : (rows : List Counted) (counts : List ℕ) (at : ℕ) (row : Counted) → at < length rows → row ≡ slice_index_or rows at row → AreCounts rows counts →
    (from low : ℕ) → from ≡ cell row.area row.priority row.code → low ≡ slice_index_or counts from low → 1 ≤ low
some_before rows counts at row within is a from low from_is low_is =
    let row_is : row ≡ slice_index_or rows at no_row = read_row rows at row within is in
    let has : HasCell (length counts) row = rw row_is (All-get_or (HasCell (length counts)) rows at no_row within a.kept) in
    let from_in : from < length counts = rw from_is (cell_in row row.code (length counts) has) in
    let e : low ≡ slice_index counts from = low_is ∙ get_or_default counts from low 0 from_in in
    rw (e, from_is) ((counted_once rows counts at row within row_is a).0)

pub tally_read : (rows : List Counted) (counts : List ℕ) (at : ℕ) (c : Code) (row : Counted) → at < length rows → row ≡ slice_index_or rows at row → AreCounts rows counts →
    (from to low high : ℕ) → from ≡ cell row.area row.priority row.code → to ≡ cell row.area row.priority c → low ≡ slice_index_or counts from low → high ≡ slice_index_or (slice_set counts from (low - 1)) to high →
    AreCounts (slice_set rows at (record row { code = c })) (slice_set (slice_set counts from (low - 1)) to (high + 1))
tally_read rows counts at c row within is a from to low high from_is to_is low_is high_is =
    let row_is : row ≡ slice_index_or rows at no_row = read_row rows at row within is in
    let has : HasCell (length counts) row = rw row_is (All-get_or (HasCell (length counts)) rows at no_row within a.kept) in
    let from_in : from < length counts = rw from_is (cell_in row row.code (length counts) has) in
    let to_in : to < length (slice_set counts from (low - 1)) = rw to_is (rw (length-set counts from (low - 1)) (cell_in row c (length counts) has)) in
    let l : low ≡ slice_index counts from = low_is ∙ get_or_default counts from low 0 from_in in
    let h : high ≡ slice_index (slice_set counts from (low - 1)) to = high_is ∙ get_or_default (slice_set counts from (low - 1)) to high 0 to_in in
    rw (from_is, to_is) (tally rows counts at c row within row_is a low high (rw from_is at l) (rw (from_is, to_is) at h))

pub fits_after : (rows : List Counted) (counts : List ℕ) (at : ℕ) (c : Code) (row : Counted) → at < length rows → row ≡ slice_index_or rows at row → AreCounts rows counts →
    (from to low high : ℕ) → from ≡ cell row.area row.priority row.code → to ≡ cell row.area row.priority c → low ≡ slice_index_or counts from low → high ≡ slice_index_or (slice_set counts from (low - 1)) to high →
    high + 1 < 2 ^ 32
fits_after rows counts at c row within is a from to low high from_is to_is low_is high_is =
    let t : AreCounts (slice_set rows at (record row { code = c })) (slice_set (slice_set counts from (low - 1)) to (high + 1)) = tally_read rows counts at c row within is a from to low high from_is to_is low_is high_is in
    let row_is : row ≡ slice_index_or rows at no_row = read_row rows at row within is in
    let has : HasCell (length counts) row = rw row_is (All-get_or (HasCell (length counts)) rows at no_row within a.kept) in
    let cells : length (slice_set (slice_set counts from (low - 1)) to (high + 1)) ≡ length counts = length-set (slice_set counts from (low - 1)) to (high + 1) ∙ length-set counts from (low - 1) in
    let to_in : to < length (slice_set counts from (low - 1)) = rw to_is (rw (length-set counts from (low - 1)) (cell_in row c (length counts) has)) in
    let e : slice_index (slice_set (slice_set counts from (low - 1)) to (high + 1)) (cell row.area row.priority c) ≡ count_of row.area row.priority c (slice_set rows at (record row { code = c }))
    = t.each row.area row.priority c has.low has.high (rw cells (cell_in row c (length counts) has)) in
    let s : slice_index (slice_set (slice_set counts from (low - 1)) to (high + 1)) (cell row.area row.priority c) ≡ high + 1 = rw (← to_is) (get_or-set_same (slice_set counts from (low - 1)) to (high + 1) 0 to_in) in
    let most = count_by-le-length (is_of row.area row.priority c) (slice_set rows at (record row { code = c })) in
    let few = t.few in
    omega (arith, e, s, most, few)

-- one more at a place
more : (counts : List ℕ) (at v k : ℕ) → at < length counts → v ≡ slice_index counts at → slice_index (slice_set counts at (v + 1)) k ≡ slice_index counts k + one_if (at == k)
more counts at v k at_in e =
    elim (eqb_tells at k) [
      | inl t ↦ rw t.0 (rw (sym t.1) (rw (get_or-set_same counts at (v + 1) 0 at_in) (omega (arith, e))))
      | inr t ↦ rw t.0 (rw (get_or-set_other counts at k (v + 1) 0 (λ e. t.1 (sym e))) (omega arith))
    ]

-- no rows, and no counts but 0
pub tally_none : (cells : ℕ) → AreCounts [] (replicate cells 0)
tally_none cells = record {
  few = omega arith;
  kept = λ k d h. absurd (omega arith);
  each = λ area priority c low high k_in. get_or-replicate cells (cell area priority c) 0 0 (rw length-replicate at k_in);
}

-- one row more
pub tally_push : (rows : List Counted) (counts : List ℕ) (row : Counted) (at v : ℕ) → AreCounts rows counts → HasCell (length counts) row → length rows + 1 < 2 ^ 32 → at ≡ cell row.area row.priority row.code → v ≡ slice_index_or counts at v →
    AreCounts (rows ++ row ∷ []) (slice_set counts at (v + 1)) × (v + 1 < 2 ^ 32)
tally_push rows counts row at v a has few at_is v_is =
    let at_in : at < length counts = rw at_is (cell_in row row.code (length counts) has) in
    let e : v ≡ slice_index counts at = v_is ∙ get_or_default counts at v 0 at_in in
    let cells : length (slice_set counts at (v + 1)) ≡ length counts = length-set counts at (v + 1) in
    let here : slice_index counts at ≡ count_of row.area row.priority row.code rows = rw at_is (a.each row.area row.priority row.code has.low has.high (cell_in row row.code (length counts) has)) in
    let most = count_by-le-length (is_of row.area row.priority row.code) rows in (
      record {
        few = omega (arith, length-append rows (row ∷ []), few);
        kept = rw cells (All-push (HasCell (length counts)) rows row a.kept has);
        each = λ area priority d p₁ p₄ k_in.
            let old : slice_index counts (cell area priority d) ≡ count_of area priority d rows = a.each area priority d p₁ p₄ (rw cells at k_in) in
            let s = sum_by_push (λ r. one_if (is_of area priority d r)) rows row in
            let f : one_if (is_of area priority d row) ≡ one_if (at == cell area priority d) = rw at_is (ap one_if (is_of_cell area priority d row (length counts) has p₁ p₄)) in
            let m = more counts at v (cell area priority d) at_in e in
            omega (arith, old, s, f, m);
      },
      omega (arith, e, here, most, few),
    )

pub tally_next : (rows : List Counted) (counts : List ℕ) (cells i at v : ℕ) → i < length rows → All (HasCell cells) rows → length rows < 2 ^ 32 → AreCounts (take i rows) counts → length counts ≡ cells →
    at ≡ cell (slice_index_or rows i no_row).area (slice_index_or rows i no_row).priority (slice_index_or rows i no_row).code → v ≡ slice_index_or counts at v →
    AreCounts (take (i + 1) rows) (slice_set counts at (v + 1)) × (v + 1 < 2 ^ 32)
tally_next rows counts cells i at v h all few a size at_is v_is =
    let has : HasCell (length counts) (slice_index_or rows i no_row) = rw size (All-get_or (HasCell cells) rows i no_row h all) in
    let p = tally_push (take i rows) counts (slice_index_or rows i no_row) at v a has (omega (arith, length-take i rows, h, few)) at_is v_is in
    (rw (take_more rows i no_row h) p.0, p.1)
