-- How many values routines have, counted over a row of the block types' counts.
use Rattle.std.proofs.Common.{◌≡◌, ◌≢◌, ◌∙◌, ap, sym, subst, refl, ℕ, zero, suc, ◌+◌, ◌<◌, ◌≤◌, List, [], ◌∷◌, ◌++◌, take, map, length, get_or, set, Some, inl, inr, arith}
use Rattle.std.specs.Prelude.{◌⊎◌, slice_get, nat_eq, option_map}
use Rattle.std.specs.List.{sum_by}
use Rattle.std.proofs.lemmas.Bool.{cases_Bool, cases_lt}
use Rattle.std.proofs.lemmas.Bool.Decides.{nat_tests}
use Rattle.std.proofs.lemmas.List.{length-append, take_more, take_all, get_or_past, get_or-set_same, get_or-set_other}
use Rattle.std.proofs.lemmas.List.Sums.{sum_by-cons}
use Rattle.std.proofs.lemmas.Option.{slice_get_past, slice_get_within, slice_get-get_or, slice_get-map}
use Rattle.plant_types.specs.Words.{folded}
use Rattle.st_blocks.specs.Chains.{Among}
use Rattle.logic_source.specs.declared.logic.Instance.{Instance}
use Rattle.logic_source.specs.declared.logic.Routine.{Routine}
use Rattle.logic_source.specs.declared.logic.BlockRef.{BlockRef}
use Rattle.logic_source.specs.declared.logic.BlockRef.TheVariants.{Ton, Tof, RTrig, Declared}
use Rattle.logic_source.specs.Source.{PlainRoutine, view_routine, own_cells}
use Rattle.logic_source.specs.Blocks.{Declares, AreBelow}
use Rattle.plant_types.specs.Values.{Path}
use Rattle.logic_source.specs.Layout.{own_values, block_values, instance_values, values_rule, routine_values, cells_per_type}
use Rattle.logic_source.proofs.Levels.{behind, by_its_rule}
use Rattle.logic_source.proofs.Agreeing.{values_ask}
use Rattle.logic_source.proofs.Seats.{own_count, routine_length}
use Rattle.vm_logic.specs.Bases.{stopped, instance_count, value_count, numbers_in, AreCounted}

among_get : (xs : List ℕ) (k : ℕ) → k < length xs → Among xs (get_or xs k 0)
among_get [] k less = absurd (omega arith)
among_get (x ∷ xs) zero less = inl refl
among_get (x ∷ xs) (suc k) less = inr (among_get xs k (omega arith))

-- a sum of counts that stop is that of the true ones, up to where counts stop
sums : (a b c d : ℕ) → stopped a ≡ stopped b → stopped c ≡ stopped d → stopped (a + c) ≡ stopped (b + d)
sums a b c d first second = omega (arith, first, second)

module _ (blocks : List PlainRoutine) where
  -- a count is that of a block type, up to where counts stop
  abbrev Right : (ℕ → ℕ) → ℕ → Type 0
  Right counts n = counts n ≡ stopped (cells_per_type blocks n)

  block_counted : (counts : ℕ → ℕ) (b : BlockRef) (path : Path) → ((n : ℕ) → b ≡ Declared n → Right counts n) → stopped (instance_count counts b) ≡ stopped (length (block_values (routine_values blocks) b path))
  block_counted counts Ton path right = refl
  block_counted counts Tof path right = refl
  block_counted counts RTrig path right = refl
  block_counted counts (Declared n) path right =
      let known = right n refl in
      let same = routine_length blocks n [] path in
      omega (arith, known, same)

  instances_counted : (counts : ℕ → ℕ) (is : List Instance) (path : Path) → ((i : Instance) → Among is i → (n : ℕ) → i.of ≡ Declared n → Right counts n)
      → stopped (sum_by (λ (i : Instance). instance_count counts i.of) is) ≡ stopped (length (instance_values (routine_values blocks) is path))
  instances_counted counts [] path right = refl
  instances_counted counts (i ∷ is) path right =
      let first = block_values (routine_values blocks) i.of (folded i.name ∷ path) in
      let rest = instance_values (routine_values blocks) is path in
      let sum = sums (instance_count counts i.of) (length first) (sum_by (λ (j : Instance). instance_count counts j.of) is) (length rest) (block_counted counts i.of (folded i.name ∷ path) (right i (inl refl))) (instances_counted counts is path (λ j there. right j (inr there))) in
      ap stopped (sum_by-cons (λ (j : Instance). instance_count counts j.of) i is) ∙ sum ∙ ap stopped (sym (length-append first rest))

  -- the count of a routine's values, by right counts of the block types that it declares
  pub routine_counted : (counts : ℕ → ℕ) (r : PlainRoutine) (path : Path) → ((n : ℕ) → Declares r n → Right counts n) → stopped (value_count counts r) ≡ stopped (length (values_rule (routine_values blocks) r path))
  routine_counted counts r path right =
      let own = own_count r path in
      let rest = instances_counted counts r.instances path (λ i there n is. right n (i, there, is)) in
      let many = length-append (own_values r path) (instance_values (routine_values blocks) r.instances path) in
      sums (own_cells r) (length (own_values r path)) (sum_by (λ (i : Instance). instance_count counts i.of) r.instances) (length (instance_values (routine_values blocks) r.instances path)) (ap stopped (sym own)) rest ∙ ap stopped (sym many)

  -- what is among a list with one more
  among_last : (xs : List ℕ) (x n : ℕ) → Among (xs ++ x ∷ []) n → Among xs n ⊎ (x ≡ n)
  among_last [] x n (inl is) = inr is
  among_last [] x n (inr none) = elim none [ ]
  among_last (y ∷ ys) x n (inl is) = inl (inl is)
  among_last (y ∷ ys) x n (inr later) =
      elim (among_last ys x n later) [
        | inl before ↦ inl (inr before)
        | inr is ↦ inr is
      ]

  -- behind the last block type there is nothing to count
  counted_past : (row : List ℕ) (n : ℕ) → length row ≡ length blocks → length blocks ≤ n → Right (numbers_in row) n
  counted_past row n long past =
      let none : length (routine_values blocks n []) ≡ 0 = ap (λ f. length (f [])) (behind (λ path. []) values_rule blocks (length blocks) n (slice_get_past blocks n past)) in
      let nothing : get_or row n 0 ≡ 0 = get_or_past row n 0 (omega (arith, long, past)) in
      omega (arith, none, nothing)

  module _ (order : List ℕ) (below : AreBelow blocks order) where
    -- the first so many of the order are counted
    abbrev pub Counted : List ℕ → ℕ → Type 0
    Counted row k = (n : ℕ) → Among (take k order) n → Right (numbers_in row) n

    declared_counted : (row : List ℕ) (k a : ℕ) (r : PlainRoutine) → length row ≡ length blocks → slice_get order k ≡ Some a → slice_get blocks a ≡ Some r → Counted row k → (n : ℕ) → Declares r n → Right (numbers_in row) n
    declared_counted row k a r long at is counted n declares =
        elim (cases_lt n (length blocks)) [
          | inl less ↦ counted n (below.after k a n r at is declares less)
          | inr past ↦ counted_past row n long past
        ]

    -- one more block type
    pub counted_more : (row row' : List ℕ) (k a : ℕ) (r : PlainRoutine) (count : ℕ) → length row ≡ length blocks → k < length order → a ≡ get_or order k 0 → slice_get blocks a ≡ Some r → count ≡ stopped (value_count (numbers_in row) r)
        → row' ≡ set row a count → Counted row k → Counted row' (k + 1)
    counted_more row row' k a r count long within at is count_is made counted n here =
        let listed : slice_get order k ≡ Some a = slice_get-get_or order k 0 within ∙ ap Some (sym at) in
        let inside = slice_get_within blocks a r is in
        let its : cells_per_type blocks a ≡ length (values_rule (routine_values blocks) r []) = ap (λ f. length (f [])) (by_its_rule (λ path. []) values_rule blocks order below values_ask a r is) in
        let right : count ≡ stopped (cells_per_type blocks a) = count_is ∙ routine_counted (numbers_in row) r [] (declared_counted row k a r long listed is counted) ∙ ap stopped (sym its) in
        let more : take (k + 1) order ≡ take k order ++ a ∷ [] = take_more order k 0 within ∙ ap (λ x. take k order ++ x ∷ []) (sym at) in
        ap (λ l. get_or l n 0) made ∙ elim (cases_Bool (nat_eq n a)) [
          | inl same ↦ (
              let equal : n ≡ a = grind (arith, nat_tests) in
              ap (λ m. get_or (set row a count) m 0) equal ∙ get_or-set_same row a count 0 (omega (arith, inside, long)) ∙ right ∙ ap (λ m. stopped (cells_per_type blocks m)) (sym equal))
          | inr other ↦ (
              let apart : n ≢ a = grind (arith, nat_tests) in
              let before : Among (take k order) n = elim (among_last (take k order) a n (subst (λ l. Among l n) more here)) [
                | inl there ↦ there
                | inr last ↦ absurd (apart (sym last))
              ] in
              get_or-set_other row a n count 0 apart ∙ counted n before)
        ]

    -- all of them
    pub counted_all : (row : List ℕ) (k : ℕ) → length row ≡ length blocks → length order ≤ k → Counted row k → AreCounted blocks row
    counted_all row k long past counted = record {
      long = long;
      each = λ n. elim (cases_lt n (length blocks)) [
        | inl less ↦ counted n (subst (λ l. Among l n) (sym (take_all k order past)) (below.whole n less))
        | inr beyond ↦ counted_past row n long beyond
      ];
    }

    pub within : (k a : ℕ) → k < length order → a ≡ get_or order k 0 → a < length blocks
    within k a less at = below.within a (subst (λ x. Among order x) (sym at) (among_get order k less))

-- the block type of a number in a list of the code's
pub routine_at : (blocks : List Routine) (a : ℕ) (x : Routine) → a < length blocks → x ≡ get_or blocks a x → slice_get (map view_routine blocks) a ≡ Some (view_routine x)
routine_at blocks a x within at = slice_get-map view_routine blocks a ∙ ap (option_map view_routine) (slice_get-get_or blocks a x within ∙ ap Some (sym at))

-- a program's count is the number of its values, up to where counts stop
pub program_counted : (blocks : List PlainRoutine) (row : List ℕ) (p : PlainRoutine) (count : ℕ) → AreCounted blocks row → count ≡ stopped (value_count (numbers_in row) p) → count ≡ stopped (length (values_rule (routine_values blocks) p []))
program_counted blocks row p count counted is = is ∙ routine_counted blocks (numbers_in row) p [] (λ n declares. counted.each n)
