-- The table of the block types' counts, filled in the order in which each comes after those that it declares.
use Rattle.std.proofs.Common.{◌≡◌, ◌≢◌, ◌∙◌, ap, sym, subst, refl, ℕ, zero, suc, ◌+◌, ◌<◌, ◌≤◌, min, List, [], ◌∷◌, ◌++◌, take, map, length, get_or, set, Option, Some, None, inl, inr, arith}
use Rattle.std.specs.Prelude.{◌⊎◌, slice_get, nat_eq}
use Rattle.std.specs.Option.{option_map, option_map_or}
use Rattle.std.proofs.lemmas.Bool.{cases_Bool}
use Rattle.std.proofs.lemmas.Bool.Decides.{nat_tests}
use Rattle.std.proofs.lemmas.List.{take_more, take_all, map_push, get_or-set_same, get_or-set_other, length-set}
use Rattle.std.proofs.lemmas.Option.{slice_get_cases, slice_get_past, slice_get_within, slice_get-get_or, slice_get-map}
use Rattle.st_blocks.specs.Chains.{Among}
use Rattle.logic_source.specs.declared.logic.Routine.{Routine}
use Rattle.logic_source.specs.Source.{PlainRoutine, view_routine}
use Rattle.logic_source.specs.Blocks.{by_type, Declares, AreBelow}
use Rattle.logic_source.proofs.Levels.{behind, by_its_rule}
use Rattle.logic_limits.specs.declared.measures.Counts.{Counts}
use Rattle.logic_limits.specs.declared.measures.Measure.TheVariants as measure
use Rattle.logic_limits.specs.Counts.{routine_slots, type_slots, type_size, type_cost}
use Rattle.logic_limits.specs.Measures.{slots_at, weight_at, weight_in, routine_weight, counts_by, routine_counts, AreCounted}
use Rattle.logic_limits.proofs.Alike.{Same, Keeps, asks_declared, slots_keep, weights_keep}

-- the table has the counts of the block type of a number
abbrev pub Known : List PlainRoutine → List Counts → ℕ → Type 0
Known blocks table n = (r : PlainRoutine) → slice_get blocks n ≡ Some r → slice_get table n ≡ Some (routine_counts blocks r)

abbrev option_counts : List PlainRoutine → Option PlainRoutine → Option Counts
option_counts blocks None = None
option_counts blocks (Some r) = Some (routine_counts blocks r)

among_at : (xs : List ℕ) (k d : ℕ) → k < length xs → Among xs (get_or xs k d)
among_at [] k d less = absurd (omega arith)
among_at (x ∷ xs) zero d less = inl refl
among_at (x ∷ xs) (suc k) d less = inr (among_at xs k d (omega arith))

-- what is among a list with one more
among_last : (xs : List ℕ) (x n : ℕ) → Among (xs ++ x ∷ []) n → Among xs n ⊎ (x ≡ n)
among_last [] x n (inl is) = inr is
among_last [] x n (inr none) = elim none [ ]
among_last (y ∷ ys) x n (inl is) = inl (inl is)
among_last (y ∷ ys) x n (inr later) =
    elim (among_last ys x n later) [
      | inl before ↦ inl (inr before)
      | inr is ↦ inr is
    ]

set_here : (table : List Counts) (a : ℕ) (counts : Counts) → a < length table → slice_get (set table a counts) a ≡ Some counts
set_here table a counts within =
    let long = length-set table a counts in
    slice_get-get_or (set table a counts) a counts (omega arith) ∙ ap Some (get_or-set_same table a counts counts within)

set_there : (table : List Counts) (a n : ℕ) (counts known : Counts) → n ≢ a → slice_get table n ≡ Some known → slice_get (set table a counts) n ≡ Some known
set_there table a n counts known other is =
    let long = length-set table a counts in
    let within = slice_get_within table n known is in
    slice_get-get_or (set table a counts) n counts (omega arith) ∙ ap Some (get_or-set_other table a n counts counts other) ∙ sym (slice_get-get_or table n counts within) ∙ is

module _ (blocks : List PlainRoutine) (order : List ℕ) (below : AreBelow blocks order) where
  -- what a table says of a block type is what the rule gives for it, up to the last number
  agrees : (rule : (ℕ → ℕ) → PlainRoutine → ℕ) (last : ℕ) (pick : Counts → ℕ) → ((stop : ℕ) → Keeps stop rule) → ((r : PlainRoutine) → pick (routine_counts blocks r) ≡ min (rule (by_type 0 rule blocks) r) last) → (table : List Counts) → length table ≡ length blocks → (n : ℕ) → Known blocks table n
      → Same last (option_map_or pick (slice_get table n) 0) (by_type 0 rule blocks n)
  agrees rule last pick keeps picks table long n known =
      elim ((slice_get_cases blocks n).1) [
        | inl found ↦ (
            let r = found.0 in
            let there : option_map_or pick (slice_get table n) 0 ≡ min (rule (by_type 0 rule blocks) r) last = ap (λ o. option_map_or pick o 0) (known r found.2) ∙ picks r in
            let meant : by_type 0 rule blocks n ≡ rule (by_type 0 rule blocks) r = by_its_rule 0 rule blocks order below (asks_declared rule keeps) n r found.2 in
            omega arith)
        | inr past ↦ (
            let nothing : option_map_or pick (slice_get table n) 0 ≡ 0 = ap (λ o. option_map_or pick o 0) (slice_get_past table n (omega arith)) in
            let none : by_type 0 rule blocks n ≡ 0 = behind 0 rule blocks (length blocks) n past.1 in
            omega arith)
      ]

  -- the counts of a routine by a table that knows the block types which it declares
  pub counted : (table : List Counts) → length table ≡ length blocks → (r : PlainRoutine) → ((n : ℕ) → Declares r n → Known blocks table n) → counts_by table r ≡ routine_counts blocks r
  counted table long r known =
      let slots = slots_keep 65537 (slots_at table) (type_slots blocks) r (λ n declares. agrees routine_slots 65537 (λ (c : Counts). c.slots) slots_keep (λ p. refl) table long n (known n declares)) in
      let size = weights_keep measure.Size 1000001 (weight_at measure.Size table) (type_size blocks) r
      (λ n declares. agrees (routine_weight measure.Size) 1000001 (weight_in measure.Size) (weights_keep measure.Size) (λ p. refl) table long n (known n declares)) in
      let cost = weights_keep measure.Cost 2000001 (weight_at measure.Cost table) (type_cost blocks) r
      (λ n declares. agrees (routine_weight measure.Cost) 2000001 (weight_in measure.Cost) (weights_keep measure.Cost) (λ p. refl) table long n (known n declares)) in
      λ i. record { slots = slots i; size = size i; cost = cost i }

  -- a whole table
  pub counted_all : (table : List Counts) → AreCounted blocks table → counts_by table ≡ routine_counts blocks
  counted_all table counts i r = counted table counts.long r (λ n declares p is. counts.each n p is) i

  -- the block types that one declares come before it
  declared_known : (table : List Counts) → length table ≡ length blocks → (k a : ℕ) (r : PlainRoutine) → slice_get order k ≡ Some a → slice_get blocks a ≡ Some r → ((n : ℕ) → Among (take k order) n → Known blocks table n) → (n : ℕ) → Declares r n → Known blocks table n
  declared_known table long k a r at is known n declares p there = known n (below.after k a n r at is declares (slice_get_within blocks n p there)) p there

  -- one more block type
  pub filled : (table table' : List Counts) (k a : ℕ) (r : PlainRoutine) (counts : Counts) → length table ≡ length blocks → k < length order → a ≡ get_or order k 0 → slice_get blocks a ≡ Some r → counts ≡ counts_by table r → table' ≡ set table a counts
      → ((n : ℕ) → Among (take k order) n → Known blocks table n) → (n : ℕ) → Among (take (k + 1) order) n → Known blocks table' n
  filled table table' k a r counts long within at is counts_are made known n here p there =
      let listed : slice_get order k ≡ Some a = slice_get-get_or order k 0 within ∙ ap Some (sym at) in
      let true_counts : counts ≡ routine_counts blocks r = counts_are ∙ counted table long r (declared_known table long k a r listed is known) in
      let inside = slice_get_within blocks a r is in
      let more : take (k + 1) order ≡ take k order ++ a ∷ [] = take_more order k 0 within ∙ ap (λ x. take k order ++ x ∷ []) (sym at) in
      ap (λ l. slice_get l n) made ∙ elim (cases_Bool (nat_eq n a)) [
        | inl same ↦ (
            let equal : n ≡ a = grind (arith, nat_tests) in
            let same_routine : Some r ≡ Some p = sym is ∙ ap (slice_get blocks) (sym equal) ∙ there in
            ap (slice_get (set table a counts)) equal ∙ set_here table a counts (omega arith) ∙ ap Some true_counts ∙ ap (option_counts blocks) same_routine)
        | inr other ↦ (
            let apart : n ≢ a = grind (arith, nat_tests) in
            let before : Among (take k order) n = elim (among_last (take k order) a n (subst (λ l. Among l n) more here)) [
              | inl there ↦ there
              | inr last ↦ absurd (apart (sym last))
            ] in
            set_there table a n counts (routine_counts blocks p) apart (known n before p there))
      ]

  -- all of them
  pub filled_all : (table : List Counts) (k : ℕ) → length table ≡ length blocks → length order ≤ k → ((n : ℕ) → Among (take k order) n → Known blocks table n) → AreCounted blocks table
  filled_all table k long past known = record {
    long = long;
    each = λ n r is. known n (subst (λ l. Among l n) (sym (take_all k order past)) (below.whole n (slice_get_within blocks n r is))) r is;
  }

  pub within : (k a : ℕ) → k < length order → a ≡ get_or order k 0 → a < length blocks
  within k a less at = below.within a (subst (λ x. Among order x) (sym at) (among_at order k 0 less))

-- a list that is mapped twice
pub map_both : {X Y Z : Type 0} (f : Y → Z) (g : X → Y) (xs : List X) → map f (map g xs) ≡ map (λ x. f (g x)) xs
map_both f g [] = refl
map_both f g (x ∷ xs) = ap (λ l. f (g x) ∷ l) (map_both f g xs)

-- one more of a mapped list
pub mapped_more : {X Y : Type 0} (g : X → Y) (xs ys : List X) (i : ℕ) (x : X) (list list' : List Y) (y : Y) → ys ≡ xs → i < length ys → x ≡ get_or ys i x → list ≡ map g (take i xs) → y ≡ g x → list' ≡ list ++ y ∷ [] → list' ≡ map g (take (i + 1) xs)
mapped_more g xs ys i x list list' y same within at were is pushed =
    let within' : i < length xs = let e = ap length same in omega arith in
    let at' : x ≡ get_or xs i x = at ∙ ap (λ l. get_or l i x) same in
    pushed ∙ (λ j. were j ++ is j ∷ []) ∙ ap (λ z. map g (take i xs) ++ g z ∷ []) at' ∙ sym (map_push g (take i xs) (get_or xs i x)) ∙ ap (map g) (sym (take_more xs i x within'))

-- the block type of a number in a list of the code's
pub routine_at : (blocks : List Routine) (a : ℕ) (x : Routine) → a < length blocks → x ≡ get_or blocks a x → slice_get (map view_routine blocks) a ≡ Some (view_routine x)
routine_at blocks a x within at = slice_get-map view_routine blocks a ∙ ap (option_map view_routine) (slice_get-get_or blocks a x within ∙ ap Some (sym at))
