-- The elements of arrays, by their paths.
use Rattle.std.proofs.Common.{◌≡◌, ◌∙◌, ap, sym, refl, ℕ, ℤ, zero, suc, pos, negsuc, ◌+◌, ◌+ℤ◌, ◌-ℤ◌, ◌<◌, true, false, List, [], ◌∷◌, ◌++◌, length, Some, slice_get, inl, inr, arith, nat_abs}
use Rattle.std.specs.Str.{bytes_eq}
use Rattle.std.specs.Cmp.Lexicographic.{bytes_decides}
use Rattle.std.proofs.lemmas.Bool.{cases_Bool, or_parts}
use Rattle.std.proofs.lemmas.Int.{ints}
use Rattle.std.proofs.lemmas.List.{length-append}
use Rattle.std.proofs.lemmas.List.Folds.{list_any-append}
use Rattle.std.proofs.lemmas.List.Sums.{sum_by-cons}
use Rattle.plant_types.specs.declared.values.Bounds.{Bounds}
use Rattle.plant_types.specs.Values.{has_index, row_length, Path}
use Rattle.plant_types.specs.Words.{folded}
use Rattle.st_typing.specs.Taken.{is_among, repeats}
use Rattle.logic_source.specs.declared.logic.Row.{Row}
use Rattle.logic_source.specs.Source.{row_cells}
use Rattle.logic_source.specs.Names.{row_words}
use Rattle.logic_source.specs.Worlds.{index_word}
use Rattle.logic_source.specs.Layout.{elements_from, element_values, row_values, Absent, NoneTwice}
use Rattle.logic_source.proofs.Paths.{Disjoint, absent_append, once_append, Under, AllUnder, absent_under, AllInside, inside_under, under_inside, inside_all, absent_alone, path_same}

-- two indexes with one word are one
index_is : (i j : ℤ) → index_word i ≡ index_word j → i ≡ j
index_is (pos a) (pos b) e = let same : a ≡ b = cc in ap pos same
index_is (pos a) (negsuc b) e = absurd (cc)
index_is (negsuc a) (pos b) e = absurd (cc)
index_is (negsuc a) (negsuc b) e = let same : a ≡ b = cc in ap negsuc same

other_index : (i j : ℤ) → (i ≡ j → ⊥) → bytes_eq (index_word i) (index_word j) ≡ false
other_index i j isnt =
    elim (cases_Bool (bytes_eq (index_word i) (index_word j))) [
      | inl is ↦ elim (isnt (index_is i j ((bytes_decides (index_word i) (index_word j)).0 is))) [ ]
      | inr other ↦ other
    ]

-- so many steps further on there is another index
further : (i j : ℤ) (k : ℕ) → j ≡ i +ℤ pos (suc k) → i ≡ j → ⊥
further i j k is same = omega (arith, ints, is, same)

-- an element is none of those of later indexes
later_absent : (path : Path) (i j : ℤ) (k n : ℕ) → j ≡ i +ℤ pos (suc k) → Absent (index_word i ∷ path) (elements_from j n path)
later_absent path i j k zero is = tt
later_absent path i j k (suc n) is =
    let next : j +ℤ pos 1 ≡ i +ℤ pos (suc (suc k)) = omega (arith, ints, is) in
    (rw (path_same path) (other_index i j (further i j k is)), later_absent path i (j +ℤ pos 1) (suc k) n next)

elements_once : (path : Path) (i : ℤ) (n : ℕ) → NoneTwice (elements_from i n path)
elements_once path i zero = tt
elements_once path i (suc n) = (later_absent path i (i +ℤ pos 1) 0 n refl, elements_once path (i +ℤ pos 1) n)

elements_inside : (path : Path) (i : ℤ) (n : ℕ) → AllInside path (elements_from i n path)
elements_inside path i zero = tt
elements_inside path i (suc n) = ((index_word i, [], refl), elements_inside path (i +ℤ pos 1) n)

-- the elements of an array go on below its path
pub row_inside : (bounds : Bounds) (path : Path) → AllInside path (element_values bounds path)
row_inside bounds path = elements_inside path bounds.low (row_length bounds)

pub row_under : (bounds : Bounds) (path : Path) → AllUnder path (element_values bounds path)
row_under bounds path = inside_under path (element_values bounds path) (row_inside bounds path)

-- a word that is none of two lists together is none of either
pub lacks_parts : (w : List ℕ) (xs ys : List (List ℕ)) → is_among (xs ++ ys) w ≡ false → (is_among xs w ≡ false) × (is_among ys w ≡ false)
lacks_parts w xs ys none = or_parts (is_among xs w) (is_among ys w) (sym (list_any-append (bytes_eq w) xs ys) ∙ none)

pub disjoint_append : (xs ys zs : List Path) → Disjoint xs zs → Disjoint ys zs → Disjoint (xs ++ ys) zs
disjoint_append [] ys zs a b = b
disjoint_append (x ∷ xs) ys zs a b = (a.0, disjoint_append xs ys zs a.1 b)

-- what is below a name that no array has is no element
pub rows_absent : (w : List ℕ) (q : Path) (rows : List Row) (path : Path) → Under (w ∷ path) q → is_among (row_words rows) w ≡ false → Absent q (row_values rows path)
rows_absent w q [] path u none = tt
rows_absent w q (row ∷ rows) path u none =
    let parts = or_parts (bytes_eq w (folded row.name)) (is_among (row_words rows) w) none in
    let here = element_values row.bounds (folded row.name ∷ path) in
    absent_append q here (row_values rows path) (absent_under path q w (folded row.name) here u (row_under row.bounds (folded row.name ∷ path)) parts.0) (rows_absent w q rows path u parts.1)

pub rows_disjoint : (w : List ℕ) (qs : List Path) (rows : List Row) (path : Path) → AllUnder (w ∷ path) qs → is_among (row_words rows) w ≡ false → Disjoint qs (row_values rows path)
rows_disjoint w [] rows path all none = tt
rows_disjoint w (q ∷ qs) rows path all none = (rows_absent w q rows path all.0 none, rows_disjoint w qs rows path all.1 none)

-- no element stands twice where no two arrays have one name
pub rows_once : (rows : List Row) (path : Path) → repeats (row_words rows) ≡ false → NoneTwice (row_values rows path)
rows_once [] path apart = tt
rows_once (row ∷ rows) path apart =
    let word = folded row.name in
    let here = element_values row.bounds (word ∷ path) in
    let parts = or_parts (is_among (row_words rows) word) (repeats (row_words rows)) apart in
    once_append here (row_values rows path) (elements_once (word ∷ path) row.bounds.low (row_length row.bounds)) (rows_once rows path parts.1) (rows_disjoint word here rows path (row_under row.bounds (word ∷ path)) parts.0)

pub rows_inside : (rows : List Row) (path : Path) → AllInside path (row_values rows path)
rows_inside [] path = tt
rows_inside (row ∷ rows) path =
    let here = element_values row.bounds (folded row.name ∷ path) in
    inside_all path here (row_values rows path) (under_inside (folded row.name) path here (row_under row.bounds (folded row.name ∷ path))) (rows_inside rows path)

-- a name alone is no element
pub rows_alone : (x : List ℕ) (rows : List Row) → Absent (x ∷ []) (row_values rows [])
rows_alone x [] = tt
rows_alone x (row ∷ rows) =
    let here = element_values row.bounds (folded row.name ∷ []) in
    absent_append (x ∷ []) here (row_values rows []) (absent_alone x (folded row.name) here (row_inside row.bounds (folded row.name ∷ []))) (rows_alone x rows)

-- ---- how many elements there are
elements_count : (i : ℤ) (n : ℕ) (path : Path) → length (elements_from i n path) ≡ n
elements_count i zero path = refl
elements_count i (suc n) path = ap suc (elements_count (i +ℤ pos 1) n path)

pub row_count : (bounds : Bounds) (path : Path) → length (element_values bounds path) ≡ row_length bounds
row_count bounds path = elements_count bounds.low (row_length bounds) path

pub rows_count : (rows : List Row) (path : Path) → length (row_values rows path) ≡ row_cells rows
rows_count [] path = refl
rows_count (row ∷ rows) path =
    let here = element_values row.bounds (folded row.name ∷ path) in
    let sum = length-append here (row_values rows path) in
    let first = row_count row.bounds (folded row.name ∷ path) in
    let rest = rows_count rows path in
    let all = sum_by-cons (λ (row : Row). row_length row.bounds) row rows in
    omega (arith, sum, first, rest, all)

-- ---- an element by its index
element_of_number : (i : ℤ) (n k : ℕ) (path : Path) → k < n → slice_get (elements_from i n path) k ≡ Some (index_word (i +ℤ pos k) ∷ path)
element_of_number i zero k path within = absurd (omega (arith, within))
element_of_number i (suc n) zero path within = let same : i ≡ i +ℤ pos 0 = omega (arith, ints) in ap (λ j. Some (index_word j ∷ path)) same
element_of_number i (suc n) (suc k) path within =
    let same : (i +ℤ pos 1) +ℤ pos k ≡ i +ℤ pos (suc k) = omega (arith, ints) in
    element_of_number (i +ℤ pos 1) n k path (omega (arith, within)) ∙ ap (λ j. Some (index_word j ∷ path)) same

pub element_numbered : (bounds : Bounds) (k : ℕ) (path : Path) → k < row_length bounds → slice_get (element_values bounds path) k ≡ Some (index_word (bounds.low +ℤ pos k) ∷ path)
element_numbered bounds k path within = element_of_number bounds.low (row_length bounds) k path within

-- an index within the bounds is that of an element
pub within_row : (bounds : Bounds) (i : ℤ) → has_index bounds i ≡ true → nat_abs (i -ℤ bounds.low) < row_length bounds
within_row bounds i within = grind (arith, ints, within)

pub counted_from : (bounds : Bounds) (i : ℤ) → has_index bounds i ≡ true → bounds.low +ℤ pos (nat_abs (i -ℤ bounds.low)) ≡ i
counted_from bounds i within = grind (arith, ints, within)

pub element_at_index : (bounds : Bounds) (i : ℤ) (path : Path) → has_index bounds i ≡ true → slice_get (element_values bounds path) (nat_abs (i -ℤ bounds.low)) ≡ Some (index_word i ∷ path)
element_at_index bounds i path within =
    element_numbered bounds (nat_abs (i -ℤ bounds.low)) path (within_row bounds i within) ∙ ap (λ j. Some (index_word j ∷ path)) (counted_from bounds i within)
