-- What is found of the numbers holds of the names.
use Rattle.std.proofs.Common.{◌≡◌, ◌∙◌, ap, sym, refl, ℕ, zero, suc, ◌<◌, ◌≤◌, Bool, true, false, List, [], ◌∷◌, take, filter, length, arith, Some, slice_get, inl, inr}
use Rattle.std.proofs.lemmas.Bool.{cases_Bool, both_ways}
use Rattle.std.specs.List.{All}
use Rattle.std.proofs.lemmas.Option.{slice_get_within}
use Rattle.plant_types.specs.Words.{folded}
use Rattle.st_blocks.specs.Chains.{Among, Leads, HoldsItself, has_chain}
use Rattle.st_blocks.specs.Graphs.{Graph, next_of, IsNumberOrder, IsSound, IsGraphFault}
use Rattle.st_blocks.specs.Blocks.{PlainBlock, declared_in, BlockHoldsItself, NoneHoldsItself, Once, IsOrder, AreOrdered}
use Rattle.st_blocks.specs.Faults.{IsNestingFault}
use Rattle.st_blocks.specs.Names.{number, is_first, IsGraph}
use Rattle.st_blocks.specs.declared.faults.NestingFault.{NestingFault}
use Rattle.st_blocks.specs.declared.faults.NestingFault.TheVariants as fault
use Rattle.st_blocks.proofs.Lists.{among_any, among_at, moved_among}
use Rattle.st_blocks.proofs.Moved.{chain_moved, holds_moved, holds_back, among_mapped}
use Rattle.st_blocks.proofs.Numbered.{all_from, named, first_within, number_some, one_word, first_at, first_is, next_first, kept, row_first, number_below}

-- what leads to itself leads to something
leads_first : (next : ℕ → List ℕ) (a : ℕ) (path : List ℕ) (b : ℕ) → Leads next a path b → (c : ℕ) × Among (next a) c
leads_first next a [] b l = (b, l)
leads_first next a (c ∷ path) b l = (c, l.0)

-- elements that pass a test
filter_on : (p : ℕ → Bool) (x : ℕ) (xs : List ℕ) → p x ≡ true → filter p (x ∷ xs) ≡ x ∷ filter p xs
filter_on p x xs on = rw on refl

filter_off : (p : ℕ → Bool) (x : ℕ) (xs : List ℕ) → p x ≡ false → filter p (x ∷ xs) ≡ filter p xs
filter_off p x xs off = rw off refl

filtered : (p : ℕ → Bool) (xs : List ℕ) (v : ℕ) → Among xs v → p v ≡ true → Among (filter p xs) v
filtered p [] v here so = here
filtered p (x ∷ xs) v (inl is) so = moved_among (x ∷ filter p xs) (filter p (x ∷ xs)) v (sym (filter_on p x xs (ap p is ∙ so))) (inl is)
filtered p (x ∷ xs) v (inr later) so =
    elim (cases_Bool (p x)) [
      | inl on ↦ moved_among (x ∷ filter p xs) (filter p (x ∷ xs)) v (sym (filter_on p x xs on)) (inr (filtered p xs v later so))
      | inr off ↦ moved_among (filter p xs) (filter p (x ∷ xs)) v (sym (filter_off p x xs off)) (filtered p xs v later so)
    ]

passes : (p : ℕ → Bool) (xs : List ℕ) (v : ℕ) → Among (filter p xs) v → p v ≡ true
passes p [] v here = elim here [ ]
passes p (x ∷ xs) v here =
    elim (cases_Bool (p x)) [
      | inl on ↦
          elim (moved_among (filter p (x ∷ xs)) (x ∷ filter p xs) v (filter_on p x xs on) here) [
            | inl is ↦ ap p (sym is) ∙ on
            | inr later ↦ passes p xs v later
          ]
      | inr off ↦ passes p xs v (moved_among (filter p (x ∷ xs)) (filter p xs) v (filter_off p x xs off) here)
    ]

unfiltered : (p : ℕ → Bool) (xs : List ℕ) (v : ℕ) → Among (filter p xs) v → Among xs v
unfiltered p [] v here = here
unfiltered p (x ∷ xs) v here =
    elim (cases_Bool (p x)) [
      | inl on ↦
          elim (moved_among (filter p (x ∷ xs)) (x ∷ filter p xs) v (filter_on p x xs on) here) [
            | inl is ↦ inl is
            | inr later ↦ inr (unfiltered p xs v later)
          ]
      | inr off ↦ inr (unfiltered p xs v (moved_among (filter p (x ∷ xs)) (filter p xs) v (filter_off p x xs off) here))
    ]

once_as : (xs ys : List ℕ) → xs ≡ ys → Once ys → Once xs
once_as xs ys is o = rw is o

once_filtered : (p : ℕ → Bool) (xs : List ℕ) → Once xs → Once (filter p xs)
once_filtered p [] o = o
once_filtered p (x ∷ xs) o =
    elim (cases_Bool (p x)) [
      | inl on ↦ once_as (filter p (x ∷ xs)) (x ∷ filter p xs) (filter_on p x xs on) (λ here. o.0 (unfiltered p xs x here), once_filtered p xs o.1)
      | inr off ↦ once_as (filter p (x ∷ xs)) (filter p xs) (filter_off p x xs off) (once_filtered p xs o.1)
    ]

-- where what passes stood
stood : (p : ℕ → Bool) (xs : List ℕ) (k v : ℕ) → slice_get (filter p xs) k ≡ Some v → (i : ℕ) × (slice_get xs i ≡ Some v) × (take k (filter p xs) ≡ filter p (take i xs))
stood p [] k v at = absurd (cc)
stood p (x ∷ xs) zero v at =
    elim (cases_Bool (p x)) [
      | inl on ↦ (0, sym (ap (λ l. slice_get l 0) (filter_on p x xs on)) ∙ at, ap (take 0) (filter_on p x xs on))
      | inr off ↦
          let s = stood p xs 0 v (sym (ap (λ l. slice_get l 0) (filter_off p x xs off)) ∙ at) in
          (suc s.0, s.1, ap (take 0) (filter_off p x xs off) ∙ s.2 ∙ sym (filter_off p x (take s.0 xs) off))
    ]
stood p (x ∷ xs) (suc k) v at =
    elim (cases_Bool (p x)) [
      | inl on ↦
          let s = stood p xs k v (sym (ap (λ l. slice_get l (suc k)) (filter_on p x xs on)) ∙ at) in
          (suc s.0, s.1, ap (take (suc k)) (filter_on p x xs on) ∙ ap (λ l. x ∷ l) s.2 ∙ sym (filter_on p x (take s.0 xs) on))
      | inr off ↦
          let s = stood p xs (suc k) v (sym (ap (λ l. slice_get l (suc k)) (filter_off p x xs off)) ∙ at) in
          (suc s.0, s.1, ap (take (suc k)) (filter_off p x xs off) ∙ s.2 ∙ sym (filter_off p x (take s.0 xs) off))
    ]

moved_as : (xs : List ℕ) (a b : ℕ) → a ≡ b → Among xs a → Among xs b
moved_as xs a b is here = rw (sym is) here

at_number : (next : ℕ → List ℕ) (a b : ℕ) → a ≡ b → HoldsItself next a → HoldsItself next b
at_number next a b is h = rw (sym is) h

module _ (blocks : List PlainBlock) (graph : Graph) (is : IsGraph blocks graph) where
  -- the number of a block type's name leads to itself where the block type holds itself
  holds_number : (w : List ℕ) → HoldsItself (declared_in blocks) w → HoldsItself (next_of graph) (number blocks w)
  holds_number w h = holds_moved (number blocks) (declared_in blocks) (next_of graph) (kept blocks graph is) w h

  number_holds : (w : List ℕ) → number blocks w < length blocks → HoldsItself (next_of graph) (number blocks w) → HoldsItself (declared_in blocks) w
  number_holds w below h = holds_back (number blocks) (declared_in blocks) (next_of graph) (kept blocks graph is) w (λ u same. one_word blocks u w same below) h

  chain_number : (k : ℕ) (w : List ℕ) → has_chain (next_of graph) k (number blocks w) ≡ has_chain (declared_in blocks) k w
  chain_number k w = chain_moved (number blocks) (declared_in blocks) (next_of graph) (kept blocks graph is) k w

  -- a number that holds itself is that of a block type that does
  holder : (a : ℕ) → HoldsItself (next_of graph) a → (block : PlainBlock) × (slice_get blocks a ≡ Some block) × BlockHoldsItself blocks block
  holder a h =
      let c = leads_first (next_of graph) a h.0 a h.1 in
      let b = row_first blocks graph is a c.0 c.1 in
      let n : number blocks (folded b.0.name) ≡ a = number_some blocks (folded b.0.name) a b.2 in
      let below = first_within blocks (folded b.0.name) a b.2 in
      (b.0, b.1, number_holds (folded b.0.name) (omega (arith, n, below)) (at_number (next_of graph) a (number blocks (folded b.0.name)) (sym n) h))

  -- none holds itself up to a number
  none_before : (a : ℕ) → ((b : ℕ) → b ≤ a → HoldsItself (next_of graph) b → ⊥) → (i : ℕ) (block : PlainBlock) → i ≤ a → slice_get blocks i ≡ Some block → BlockHoldsItself blocks block → ⊥
  none_before a free i block least at h =
      let n = named blocks i block at in
      let same = number_some blocks (folded block.name) n.0 n.2 in
      free (number blocks (folded block.name)) (omega (arith, same, n.1, least)) (holds_number (folded block.name) h)

  none_holds : ((b : ℕ) → b < length graph → HoldsItself (next_of graph) b → ⊥) → NoneHoldsItself blocks
  none_holds free i block at h = free (number blocks (folded block.name)) (number_below blocks graph is (folded block.name)) (holds_number (folded block.name) h)

  pub fault_is : (f : NestingFault) → IsGraphFault graph f → IsNestingFault blocks f
  fault_is fault.Memory p = p
  fault_is (fault.HoldsItself a) p = (holder a p.1, λ j block less at h. none_before j (λ b least. p.2 b (omega (arith, least, less))) j block (omega arith) at h)
  fault_is fault.TooDeep p =
      let d = p.1 in
      let c = among_any (has_chain (next_of graph) 15) (next_of graph d.0) d.2 in
      let b = row_first blocks graph is d.0 c.0 c.1 in
      (none_holds p.0, (d.0, b.0, b.1, sym (chain_number 16 (folded b.0.name)) ∙ ap (has_chain (next_of graph) 16) (number_some blocks (folded b.0.name) d.0 b.2) ∙ d.2))

  order_is : (numbers : List ℕ) → IsNumberOrder graph numbers → IsOrder blocks (filter (is_first blocks) numbers)
  order_is numbers p = record {
    first = λ a here. first_is blocks a (passes (is_first blocks) numbers a here);
    whole = λ word a at. filtered (is_first blocks) numbers a (p.whole a (let n = number_some blocks word a at in let below = number_below blocks graph is word in omega (arith, n, below))) (first_at blocks word a at);
    once = once_filtered (is_first blocks) numbers p.once;
    after = λ k a b block word at there among named'.
        let s = stood (is_first blocks) numbers k a at in
        let first = passes (is_first blocks) numbers a (among_at (filter (is_first blocks) numbers) k a at) in
        let step : Among (next_of graph a) b =
        moved_among _ (next_of graph a) b (sym (next_first blocks graph is a block first there))
        (moved_as _ (number blocks (folded word)) b (number_some blocks (folded word) b named') (among_mapped (λ w. number blocks (folded w)) block.instances word among)) in
        moved_among (filter (is_first blocks) (take s.0 numbers)) (take k (filter (is_first blocks) numbers)) b (sym s.2) (filtered (is_first blocks) (take s.0 numbers) b (p.after s.0 a b s.1 step) (first_at blocks (folded word) b named'));
  }

  pub sound_is : (numbers order : List ℕ) → IsSound graph numbers → order ≡ filter (is_first blocks) numbers → AreOrdered blocks order
  sound_is numbers order p are = rw are (record {
    apart = none_holds p.apart;
    shallow = λ i block at deep. both_ways (has_chain (next_of graph) 16 (number blocks (folded block.name))) (p.shallow (number blocks (folded block.name)) (number_below blocks graph is (folded block.name))) (chain_number 16 (folded block.name) ∙ deep);
    ordered = order_is numbers p.ordered;
  })

-- each number is that of a block type
pub order_within : (blocks : List PlainBlock) (order : List ℕ) → IsOrder blocks order → All (λ a. a < length blocks) order
order_within blocks order p = all_from order (length blocks) (λ a here. let f = p.first a here in slice_get_within blocks a f.0 f.1)
