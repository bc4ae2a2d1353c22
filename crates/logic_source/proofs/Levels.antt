-- What a rule gives by block type, level by level.
use Rattle.std.proofs.Common.{◌≡◌, ◌∙◌, ap, sym, refl, ℕ, zero, suc, ◌≤◌, true, false, List, [], ◌∷◌, length, take, Option, Some, None, slice_get, inl, inr, arith, eqb}
use Rattle.std.proofs.lemmas.Bool.{cases_Bool, or_cases, eqb-true}
use Rattle.std.proofs.lemmas.Map.Steps.{length-le_from_distinct_below}
use Rattle.std.proofs.lemmas.Option.{slice_get_within}
use Rattle.std.proofs.Math.Seq.{take-length}
use Rattle.std.specs.Prelude.{◌⊎◌}
use Rattle.std.specs.List.{list_any, IsDistinct, AllByRecursion}
use Rattle.std.specs.Option.{option_map_or}
use Rattle.st_blocks.specs.Chains.{Among}
use Rattle.st_blocks.specs.Blocks.{Once}
use Rattle.logic_source.specs.Source.{PlainRoutine}
use Rattle.logic_source.specs.Blocks.{levels, by_type, Declares, AsksDeclared, AreBelow}

-- what is among the first of a list is among the fewer first, or is the last of them
among_more : {V : Type 0} (xs : List V) (k : ℕ) (v : V) → Among (take (suc k) xs) v → Among (take k xs) v ⊎ (slice_get xs k ≡ Some v)
among_more [] k v here = elim here [ ]
among_more (x ∷ xs) zero v (inl is) = inr (ap Some is)
among_more (x ∷ xs) zero v (inr none) = elim none [ ]
among_more (x ∷ xs) (suc k) v (inl is) = inl (inl is)
among_more (x ∷ xs) (suc k) v (inr later) =
    elim (among_more xs k v later) [
      | inl before ↦ inl (inr before)
      | inr is ↦ inr is
    ]

-- numbers that are listed once are distinct
another : (x y : ℕ) → (y ≡ x → ⊥) → eqb x y ≡ false
another x y isnt =
    elim (cases_Bool (eqb x y)) [
      | inl is ↦ elim (isnt (sym (eqb-true x y is))) [ ]
      | inr other ↦ other
    ]

not_among : (x : ℕ) (xs : List ℕ) → (Among xs x → ⊥) → AllByRecursion (λ y. eqb x y ≡ false) xs
not_among x [] none = tt
not_among x (y ∷ ys) none = (another x y (λ is. none (inl is)), not_among x ys (λ later. none (inr later)))

once_distinct : (xs : List ℕ) → Once xs → IsDistinct eqb xs
unfolding IsDistinct
once_distinct [] once = tt
once_distinct (x ∷ xs) once = (not_among x xs once.0, once_distinct xs once.1)

any_among : (q : ℕ) (xs : List ℕ) → list_any (eqb q) xs ≡ true → Among xs q
any_among q [] any = absurd (cc)
any_among q (x ∷ xs) any =
    elim (or_cases (eqb q x) (list_any (eqb q) xs) any) [
      | inl is ↦ inl (sym (eqb-true q x is))
      | inr later ↦ inr (any_among q xs later)
    ]

-- an order has no more places than there are block types
pub as_many : (blocks : List PlainRoutine) (order : List ℕ) → AreBelow blocks order → length order ≤ length blocks
as_many blocks order below = length-le_from_distinct_below order (length blocks) (once_distinct order below.once) (λ q any. below.within q (any_among q order any))

module _ {A : Type 0} (none : A) (rule : (ℕ → A) → PlainRoutine → A) (blocks : List PlainRoutine) where
  -- there is nothing behind the last block type
  pub behind : (d n : ℕ) → slice_get blocks n ≡ None → levels none rule blocks d n ≡ none
  behind zero n past = refl
  behind (suc d) n past = ap (λ o. option_map_or (rule (levels none rule blocks d)) o none) past

  module _ (order : List ℕ) (below : AreBelow blocks order) (asks : AsksDeclared rule) where
    -- the first so many of the order need no more levels than they are
    abbrev Settled : ℕ → Type 0
    Settled k = (d : ℕ) → k ≤ d → (n : ℕ) → Among (take k order) n → levels none rule blocks d n ≡ levels none rule blocks k n

    settled_below : (k d : ℕ) → k ≤ d → Settled k → (n : ℕ) (r : PlainRoutine) → slice_get order k ≡ Some n → slice_get blocks n ≡ Some r → (b : ℕ) → Declares r b → (o : Option PlainRoutine) → slice_get blocks b ≡ o
        → levels none rule blocks d b ≡ levels none rule blocks k b
    settled_below k d deep before n r at is b declares None past = behind d b past ∙ sym (behind k b past)
    settled_below k d deep before n r at is b declares (Some inner) there = before d deep b (below.after k n b r at is declares (slice_get_within blocks b inner there))

    settled_at : (k d : ℕ) → k ≤ d → Settled k → (n : ℕ) → slice_get order k ≡ Some n → (o : Option PlainRoutine) → slice_get blocks n ≡ o → levels none rule blocks (suc d) n ≡ levels none rule blocks (suc k) n
    settled_at k d deep before n at None is = behind (suc d) n is ∙ sym (behind (suc k) n is)
    settled_at k d deep before n at (Some r) is =
        ap (λ o. option_map_or (rule (levels none rule blocks d)) o none) is
        ∙ asks (levels none rule blocks d) (levels none rule blocks k) r (λ b declares. settled_below k d deep before n r at is b declares (slice_get blocks b) refl)
        ∙ sym (ap (λ o. option_map_or (rule (levels none rule blocks k)) o none) is)

    nowhere : {P : Type 0} (xs : List ℕ) (n : ℕ) → Among (take 0 xs) n → P
    nowhere [] n here = elim here [ ]
    nowhere (x ∷ xs) n here = elim here [ ]

    settled_more : (k d : ℕ) → suc k ≤ d → Settled k → (n : ℕ) → Among (take (suc k) order) n → levels none rule blocks d n ≡ levels none rule blocks (suc k) n
    settled_more k zero deep before n here = absurd (omega (arith, deep))
    settled_more k (suc d) deep before n here =
        elim (among_more order k n here) [
          | inl earlier ↦ before (suc d) (omega (arith, deep)) n earlier ∙ sym (before (suc k) (omega arith) n earlier)
          | inr at ↦ settled_at k d (omega (arith, deep)) before n at (slice_get blocks n) refl
        ]

    settled : (k : ℕ) → Settled k
    settled zero d deep n here = nowhere order n here
    settled (suc k) d deep n here = settled_more k d deep (settled k) n here

    -- what a rule gives for a block type is the rule's own answer, by what it gives for all
    pub by_its_rule : (n : ℕ) (r : PlainRoutine) → slice_get blocks n ≡ Some r → by_type none rule blocks n ≡ rule (by_type none rule blocks) r
    by_its_rule n r is =
        let all = length blocks in
        let few = as_many blocks order below in
        let here : Among (take (length order) order) n = rw (take-length order) (below.whole n (slice_get_within blocks n r is)) in
        settled (length order) all few n here ∙ sym (settled (length order) (suc all) (omega (arith, few)) n here)
        ∙ ap (λ o. option_map_or (rule (levels none rule blocks all)) o none) is
