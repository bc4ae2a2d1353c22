-- Each list of block types is in order or has one fault.
use Rattle.std.proofs.Math.Nat.{eq-or-lt_of_le}
use Rattle.std.proofs.Common.{subst, ◌≡◌, ◌≢◌, ◌∙◌, ap, sym, refl, ℕ, zero, suc, ◌+◌, ◌<◌, ◌≤◌, ◌⊎◌, ◌↔◌, false, List, [], ◌∷◌, length, arith, Some, slice_get, inl, inr, get_or, replicate}
use Rattle.std.proofs.lemmas.Bool.{cases_Bool, cases_order, both_ways}
use Rattle.std.proofs.lemmas.Option.{same_Some, slice_get_within}
use Rattle.plant_types.specs.Words.{folded}
use Rattle.st_blocks.specs.Chains.{Among, Reaches, HoldsItself, has_chain}
use Rattle.st_blocks.specs.Blocks.{PlainBlock, declared_in, BlockHoldsItself, TooDeep, NoneHoldsItself, NoneTooDeep, AreOrdered}
use Rattle.st_blocks.specs.Faults.{IsNestingFault}
use Rattle.st_blocks.specs.Names.{number, row_at}
use Rattle.st_blocks.specs.Search.{Search, seen_all}
use Rattle.st_blocks.specs.declared.faults.NestingFault.{NestingFault}
use Rattle.st_blocks.specs.declared.faults.NestingFault.TheVariants as fault
use Rattle.st_blocks.proofs.Moved.{holds_moved, holds_back}
use Rattle.st_blocks.proofs.Rows.{lt_or_le}
use Rattle.st_blocks.proofs.Numbered.{named, first_within, number_some, one_word, row_kept, row_least}
use Rattle.st_blocks.proofs.Searching.{Marked, Searches, searches, searched, whole, found_within}

some_at : {V : Type 0} (xs : List V) (i : ℕ) → i < length xs → (v : V) × (slice_get xs i ≡ Some v)
some_at [] i within = absurd (omega (arith, within))
some_at (x ∷ xs) zero within = (x, refl)
some_at (x ∷ xs) (suc i) within = some_at xs i (omega (arith, within))

-- a search that is carried to its end
module _ (next : ℕ → List ℕ) (from n : ℕ) (range : (a w : ℕ) → Among (next a) w → w < n) (to : ℕ) where
  carried : (left i : ℕ) (s : Search) → Searches next from n i s → n ≤ left + i → (end : Search) × (Marked end to ↔ Reaches next from to)
  carried zero i s p enough = (s, whole next from n i to s p (let few = found_within next from n i s p in omega (arith, few, enough)))
  carried (suc left) i s p enough =
      elim (lt_or_le i (length s.1)) [
        | inl within ↦
            let at = some_at s.1 i within in
            carried left (i + 1) (seen_all (next at.0) s) (searched next from n i at.0 s p at.1 within (range at.0)) (omega (arith, enough))
        | inr over ↦ (s, whole next from n i to s p over)
      ]

  pub reached_or_not : Reaches next from to ⊎ (Reaches next from to → ⊥)
  reached_or_not =
      let end = carried n 0 (seen_all (next from) (replicate n false, [])) (searches next from n (range from)) (omega arith) in
      elim (cases_Bool (get_or end.0.0 to false)) [
        | inl so ↦ inl (end.1.0 so)
        | inr not_so ↦ inr (λ r. both_ways (get_or end.0.0 to false) not_so (end.1.1 r))
      ]

-- the first block type with a property that each has or hasn't
module _ (blocks : List PlainBlock) (P : PlainBlock → Type 0) where
  abbrev NoneBefore : ℕ → Type 0
  NoneBefore n = (j : ℕ) (block : PlainBlock) → j < n → slice_get blocks j ≡ Some block → P block → ⊥

  abbrev IsFirst : ℕ → Type 0
  IsFirst i = ((block : PlainBlock) × (slice_get blocks i ≡ Some block) × P block) × NoneBefore i

  none_more : (n : ℕ) (block : PlainBlock) → NoneBefore n → slice_get blocks n ≡ Some block → (P block → ⊥) → NoneBefore (suc n)
  none_more n block none at not_it j other less there has =
      elim (eq-or-lt_of_le (let le : j ≤ n = omega (arith, less) in le)) [
        | inl is ↦ not_it (subst P (same_Some other block (sym there ∙ ap (slice_get blocks) is ∙ at)) has)
        | inr before ↦ none j other before there has
      ]

  one_first : (i j : ℕ) → IsFirst i → IsFirst j → i ≡ j
  one_first i j a b =
      elim (cases_order i j) [
        | inl is ↦ is
        | inr (inl less) ↦ absurd (b.1 i a.0.0 less a.0.1 a.0.2)
        | inr (inr more) ↦ absurd (a.1 j b.0.0 more b.0.1 b.0.2)
      ]

  module _ (decide : (i : ℕ) (block : PlainBlock) → slice_get blocks i ≡ Some block → P block ⊎ (P block → ⊥)) where
    first_before : (n : ℕ) → n ≤ length blocks → NoneBefore n ⊎ ((i : ℕ) × IsFirst i)
    first_before zero within = inl (λ j block less at has. absurd (omega (arith, less)))
    first_before (suc n) within =
        elim (first_before n (omega (arith, within))) [
          | inr found ↦ inr found
          | inl none ↦
              let at = some_at blocks n (omega (arith, within)) in
              elim (decide n at.0 at.1) [
                | inl has ↦ inr (n, ((at.0, at.1, has), none))
                | inr not_it ↦ inl (none_more n at.0 none at.1 not_it)
              ]
        ]

    first_or_none : ((i : ℕ) (block : PlainBlock) → slice_get blocks i ≡ Some block → P block → ⊥) ⊎ ((i : ℕ) × IsFirst i)
    first_or_none =
        elim (first_before (length blocks) (omega arith)) [
          | inl none ↦ inl (λ i block at has. none i block (slice_get_within blocks i block at) at has)
          | inr found ↦ inr found
        ]

module _ (blocks : List PlainBlock) where
  below : (a w : ℕ) → Among (row_at blocks a) w → w < suc (length blocks)
  below a w here = let n = row_least blocks a w here in omega (arith, n)

  word_holds : (w : List ℕ) → number blocks w < length blocks → HoldsItself (declared_in blocks) w ⊎ (HoldsItself (declared_in blocks) w → ⊥)
  word_holds w within =
      elim (reached_or_not (row_at blocks) (number blocks w) (suc (length blocks)) below (number blocks w)) [
        | inl h ↦ inl (holds_back (number blocks) (declared_in blocks) (row_at blocks) (row_kept blocks) w (λ u same. one_word blocks u w same within) h)
        | inr none ↦ inr (λ h. none (holds_moved (number blocks) (declared_in blocks) (row_at blocks) (row_kept blocks) w h))
      ]

  block_holds : (i : ℕ) (block : PlainBlock) → slice_get blocks i ≡ Some block → BlockHoldsItself blocks block ⊎ (BlockHoldsItself blocks block → ⊥)
  block_holds i block at =
      let n = named blocks i block at in
      let same = number_some blocks (folded block.name) n.0 n.2 in
      let within = first_within blocks (folded block.name) n.0 n.2 in
      word_holds (folded block.name) (omega (arith, same, within))

  block_deep : (i : ℕ) (block : PlainBlock) → slice_get blocks i ≡ Some block → TooDeep blocks block ⊎ (TooDeep blocks block → ⊥)
  block_deep i block at =
      elim (cases_Bool (has_chain (declared_in blocks) 16 (folded block.name))) [
        | inl so ↦ inl so
        | inr not_so ↦ inr (both_ways (has_chain (declared_in blocks) 16 (folded block.name)) not_so)
      ]

  -- none holds itself, or one is the first that does
  pub holder_or_none : NoneHoldsItself blocks ⊎ ((i : ℕ) × IsNestingFault blocks (fault.HoldsItself i))
  holder_or_none = first_or_none blocks (BlockHoldsItself blocks) block_holds

  -- none is too deep, or one is
  pub deep_or_none : NoneTooDeep blocks ⊎ ((i : ℕ) × (block : PlainBlock) × (slice_get blocks i ≡ Some block) × TooDeep blocks block)
  deep_or_none =
      elim (first_or_none blocks (TooDeep blocks) block_deep) [
        | inl none ↦ inl none
        | inr found ↦ inr (found.0, found.1.0.0, found.1.0.1, found.1.0.2)
      ]

  pub some_answer : (NoneHoldsItself blocks × NoneTooDeep blocks) ⊎ ((f : NestingFault) × IsNestingFault blocks f × (f ≢ fault.Memory))
  some_answer =
      elim holder_or_none [
        | inr found ↦ inr (fault.HoldsItself found.0, found.1, λ e. cc e)
        | inl apart ↦
            elim deep_or_none [
              | inl shallow ↦ inl (apart, shallow)
              | inr found ↦ inr (fault.TooDeep, (apart, found), λ e. cc e)
            ]
      ]

  pub one_holder : (i j : ℕ) → IsNestingFault blocks (fault.HoldsItself i) → IsNestingFault blocks (fault.HoldsItself j) → i ≡ j
  one_holder = one_first blocks (BlockHoldsItself blocks)

  pub one_fault : (f g : NestingFault) → IsNestingFault blocks f → IsNestingFault blocks g → f ≢ fault.Memory → g ≢ fault.Memory → f ≡ g
  one_fault fault.Memory g a b some other = absurd (some refl)
  one_fault (fault.HoldsItself i) fault.Memory a b some other = absurd (other refl)
  one_fault (fault.HoldsItself i) (fault.HoldsItself j) a b some other = ap (λ n. fault.HoldsItself n) (one_holder i j a b)
  one_fault (fault.HoldsItself i) fault.TooDeep a b some other = absurd (b.0 i a.0.0 a.0.1 a.0.2)
  one_fault fault.TooDeep fault.Memory a b some other = absurd (other refl)
  one_fault fault.TooDeep (fault.HoldsItself j) a b some other = absurd (a.0 j b.0.0 b.0.1 b.0.2)
  one_fault fault.TooDeep fault.TooDeep a b some other = refl

  -- what is in order has no fault
  pub apart : (order : List ℕ) (f : NestingFault) → AreOrdered blocks order → IsNestingFault blocks f → f ≡ fault.Memory
  apart order fault.Memory ordered is = refl
  apart order (fault.HoldsItself i) ordered is = absurd (ordered.apart i is.0.0 is.0.1 is.0.2)
  apart order fault.TooDeep ordered is = absurd (ordered.shallow is.1.0 is.1.1 is.1.2 is.1.3)
