-- What goes over by the numbers of paths is what goes over by paths.
use Rattle.std.proofs.Common.{◌≡◌, ◌∙◌, ap, sym, subst, refl, arith, ℕ, ℤ, zero, suc, pos, negsuc, true, false, Bool, ◌&&◌, List, [], ◌∷◌, Option, Some, None, slice_get, inl, inr}
use Rattle.std.proofs.lemmas.Int.{ints}
use Rattle.std.proofs.lemmas.Bool.{cases_Bool}
use Rattle.st_blocks.specs.Chains.{Among}
use Rattle.plant_types.specs.declared.values.Bounds.{Bounds}
use Rattle.st_tree.specs.Kinds.{same_kind}
use Rattle.logic_source.specs.Source.{Source}
use Rattle.plant_types.specs.Values.{Path}
use Rattle.logic_source.specs.Worlds.{same_path, index_word}
use Rattle.logic_source.specs.Layout.{IsDistinctlyNamed}
use Rattle.logic_source.specs.Ranges.{KindAt, all_kinds}
use Rattle.logic_source.specs.Carried.{both_same, same_array, same_value, value_by_path, keeps_value}
use Rattle.logic_source.proofs.Paths.{path_is}
use Rattle.logic_source.proofs.KindPaths.{kinds_once}
use Rattle.logic_source.proofs.Carrying.{found_by, kind_found}
use Rattle.logic_carry.specs.declared.lists.ValueAt.{ValueAt}
use Rattle.logic_carry.specs.Paths.{AreNumbered, IsIndex, IsAt, IsElement, IsPlace, Respects, TellsWords, path_key, element_word}
use Rattle.logic_carry.specs.Lists.{AreValues}
use Rattle.logic_carry.specs.Keeping.{KeepsValue, same_listed}
use Rattle.logic_carry.proofs.Tables.{one_number, one_path, key_parts}

-- ---- elements of arrays with the same bounds

-- two indexes with one word are one
index_is : (i j : ℤ) → index_word i ≡ index_word j → i ≡ j
index_is (pos a) (pos b) e = let same : a ≡ b = cc in ap pos same
index_is (pos a) (negsuc b) e = absurd (cc)
index_is (negsuc a) (pos b) e = absurd (cc)
index_is (negsuc a) (negsuc b) e = let same : a ≡ b = cc in ap negsuc same

same_shift : (i j : ℤ) (s t : ℕ) → i ≡ j → IsIndex i s → IsIndex j t → s ≡ t
same_shift i j s t same is is' = omega (arith, ints, same, is, is')

same_index : (i j : ℤ) (s t : ℕ) → s ≡ t → IsIndex i s → IsIndex j t → i ≡ j
same_index i j s t same is is' = omega (arith, ints, same, is, is')

heads : (a b : List ℕ) (p q : Path) → a ∷ p ≡ b ∷ q → a ≡ b
heads a b p q e = cc

tails : (a b : List ℕ) (p q : Path) → a ∷ p ≡ b ∷ q → p ≡ q
tails a b p q e = cc

module _ (words : List ℕ → Option ℕ) (numbers : ℕ → Option ℕ) where
  -- a number is not that of a variable's path and of an element's
  not_element : (count : ℕ) → AreNumbered numbers count → (n : ℕ) (p q : Path) → IsAt words numbers n p → IsElement words numbers n q → ⊥
  not_element count are n [] q at at' = let one = are.from_one (path_key at'.parent (element_word at'.shift)) n at'.found in let none : n ≡ 0 = at in omega (arith, one, none)
  not_element count are n (name ∷ p) q at at' =
      let v = at.2 in
      let parts = key_parts at.0 at.1 at'.parent (element_word at'.shift) (omega (arith, v.small)) (omega (arith, at'.small)) (are.once (path_key at.0 at.1) (path_key at'.parent (element_word at'.shift)) n at.3 at'.found) in
      omega (arith, v.small, parts.1)

  -- a number is that of one path
  pub one_place : (count : ℕ) → TellsWords words → AreNumbered numbers count → (n : ℕ) (p q : Path) (a b : Option Bounds) → IsPlace words numbers n p a → IsPlace words numbers n q b → p ≡ q
  one_place count tells are n p q None None at at' = one_path words numbers count tells are n p q at at'
  one_place count tells are n p q None (Some b) at at' = absurd (not_element count are n p q at at')
  one_place count tells are n p q (Some a) None at at' = absurd (not_element count are n q p at' at)
  one_place count tells are n p q (Some a) (Some b) at at' =
      let parts = key_parts at.parent (element_word at.shift) at'.parent (element_word at'.shift) (omega (arith, at.small)) (omega (arith, at'.small)) (are.once (path_key at.parent (element_word at.shift)) (path_key at'.parent (element_word at'.shift)) n at.found at'.found) in
      let shifts : at.shift ≡ at'.shift = omega (arith, parts.1) in
      let arrays : at.array ≡ at'.array = one_path words numbers count tells are at.parent at.array at'.array at.array_at (subst (λ m. IsAt words numbers m at'.array) (sym parts.0) at'.array_at) in
      let indexes = same_index at.index at'.index at.shift at'.shift shifts at.shift_is at'.shift_is in
      at.path_is ∙ (λ i. index_word (indexes i) ∷ arrays i) ∙ sym at'.path_is

  -- a path has one number
  pub one_value : Respects words → (n m : ℕ) (p : Path) (a b : Option Bounds) → same_array a b ≡ true → IsPlace words numbers n p a → IsPlace words numbers m p b → n ≡ m
  one_value respects n m p None None same at at' = one_number words numbers respects n m p at at'
  one_value respects n m p None (Some b) same at at' = absurd (cc)
  one_value respects n m p (Some a) None same at at' = absurd (cc)
  one_value respects n m p (Some a) (Some b) same at at' =
      let both : index_word at.index ∷ at.array ≡ index_word at'.index ∷ at'.array = sym at.path_is ∙ at'.path_is in
      let shifts : at.shift ≡ at'.shift = same_shift at.index at'.index at.shift at'.shift (index_is at.index at'.index (heads (index_word at.index) (index_word at'.index) at.array at'.array both)) at.shift_is at'.shift_is in
      let arrays : at.array ≡ at'.array = tails (index_word at.index) (index_word at'.index) at.array at'.array both in
      let parents : at.parent ≡ at'.parent = one_number words numbers respects at.parent at'.parent at.array at.array_at (subst (λ q. IsAt words numbers at'.parent q) (sym arrays) at'.array_at) in
      let found : Some n ≡ Some m = sym at.found ∙ (λ i. numbers (path_key (parents i) (element_word (shifts i)))) ∙ at'.found in
      cc

-- ---- what is listed and what it stands for, by places

pub among_at : (ks : List KindAt) (n : ℕ) (k : KindAt) → slice_get ks n ≡ Some k → Among ks k
among_at [] n k at = absurd (cc)
among_at (x ∷ xs) zero k at = let same : x ≡ k = cc in inl same
among_at (x ∷ xs) (suc n) k at = inr (among_at xs n k at)

-- a value that is listed is that of a path and a kind
pub record Listing (words : List ℕ → Option ℕ) (numbers : ℕ → Option ℕ) (v : ValueAt) (k : KindAt) : Type 0 where
  pub at : IsPlace words numbers v.path k.path k.bounds
  pub kind_is : v.kind ≡ k.kind
  pub bounds_are : v.bounds ≡ k.bounds

module _ (words : List ℕ → Option ℕ) (numbers : ℕ → Option ℕ) where
  pub value_there : (vs : List ValueAt) (ks : List KindAt) (n : ℕ) (k : KindAt) → AreValues words numbers vs ks → slice_get ks n ≡ Some k → (v : ValueAt) × (slice_get vs n ≡ Some v) × Listing words numbers v k
  value_there [] [] n k are at = absurd (cc)
  value_there [] (x ∷ xs) n k are at = elim are [ ]
  value_there (v ∷ vs) [] n k are at = elim are [ ]
  value_there (v ∷ vs) (x ∷ xs) zero k are at =
      let same : x ≡ k = cc in
      (v, refl, subst (λ (y : KindAt). Listing words numbers v y) same (record { at = are.0; kind_is = are.1; bounds_are = are.2 }))
  value_there (v ∷ vs) (x ∷ xs) (suc n) k are at = value_there vs xs n k are.3 at

  pub kind_there : (vs : List ValueAt) (ks : List KindAt) (n : ℕ) (v : ValueAt) → AreValues words numbers vs ks → slice_get vs n ≡ Some v → (k : KindAt) × (slice_get ks n ≡ Some k) × Listing words numbers v k
  kind_there [] [] n v are at = absurd (cc)
  kind_there [] (x ∷ xs) n v are at = elim are [ ]
  kind_there (w ∷ ws) [] n v are at = elim are [ ]
  kind_there (w ∷ ws) (x ∷ xs) zero v are at =
      let same : w ≡ v = cc in
      (x, refl, subst (λ (y : ValueAt). Listing words numbers y x) same (record { at = are.0; kind_is = are.1; bounds_are = are.2 }))
  kind_there (w ∷ ws) (x ∷ xs) (suc n) v are at = kind_there ws xs n v are.3 at

-- what is found by a path stands somewhere
found_at : (ks : List KindAt) (q : Path) (k : KindAt) → value_by_path ks q ≡ Some k → (n : ℕ) × (slice_get ks n ≡ Some k) × (k.path ≡ q)
found_at [] q k is = absurd (cc)
found_at (x ∷ xs) q k is = elim (cases_Bool (same_path x.path q)) [
  | inl yes' ↦
      let here : Some x ≡ Some k = sym (ap (found_by x xs q) yes') ∙ is in
      let one : x ≡ k = cc in
      (0, ap Some one, subst (λ (y : KindAt). y.path ≡ q) one (path_is x.path q yes'))
  | inr no' ↦ let rest = found_at xs q k (sym (ap (found_by x xs q) no') ∙ is) in (suc rest.0, rest.1, rest.2)
]

both_kinds : (a b : KindAt) (v w : ValueAt) → v.kind ≡ a.kind → v.bounds ≡ a.bounds → w.kind ≡ b.kind → w.bounds ≡ b.bounds → same_value a b ≡ same_listed v w
both_kinds a b v w va vb wa wb = (λ i. same_kind (sym va i) (sym wa i) && same_array (sym vb i) (sym wb i))

and_false : (a b : Bool) → b ≡ false → (a && b) ≡ false
and_false true b e = e
and_false false b e = refl

module _ (words : List ℕ → Option ℕ) (numbers : ℕ → Option ℕ) (count : ℕ) (respects : Respects words) (tells : TellsWords words) (are : AreNumbered numbers count) (old new : Source) (named : IsDistinctlyNamed old) (named' : IsDistinctlyNamed new)
    (vs : List ValueAt) (vs_are : AreValues words numbers vs (all_kinds old)) where
  module _ (w : ValueAt) (k : KindAt) (is : Listing words numbers w k) (here : Among (all_kinds new) k) where
    new_found : value_by_path (all_kinds new) k.path ≡ Some k
    new_found = kind_found (all_kinds new) k (kinds_once new named') here

    -- a value that is kept is that of an old path, and goes over
    pub keeps_some : (j : ℕ) → KeepsValue vs w (Some j) → (o : KindAt) × (slice_get (all_kinds old) j ≡ Some o) × (o.path ≡ k.path) × (keeps_value old new k.path ≡ true)
    keeps_some j keeps =
        let there = kind_there words numbers vs (all_kinds old) j keeps.0 vs_are keeps.1 in
        let o = there.0 in
        let values : same_value o k ≡ true = both_kinds o k keeps.0 w there.2.kind_is there.2.bounds_are is.kind_is is.bounds_are ∙ keeps.3 in
        let same : o.path ≡ k.path = one_place words numbers count tells are w.path o.path k.path o.bounds k.bounds (subst (λ m. IsPlace words numbers m o.path o.bounds) keeps.2 there.2.at) is.at in
        let old_found : value_by_path (all_kinds old) k.path ≡ Some o = ap (value_by_path (all_kinds old)) (sym same) ∙ kind_found (all_kinds old) o (kinds_once old named) (among_at (all_kinds old) j o there.1) in
        (o, there.1, same, (λ i. both_same same_value (old_found i) (new_found i)) ∙ values)

    not_kept : KeepsValue vs w None → (o : Option KindAt) → value_by_path (all_kinds old) k.path ≡ o → both_same same_value o (Some k) ≡ false
    not_kept keeps None found = refl
    not_kept keeps (Some e) found =
        let f = found_at (all_kinds old) k.path e found in
        let there = value_there words numbers vs (all_kinds old) f.0 e vs_are f.1 in
        elim (cases_Bool (same_array e.bounds k.bounds)) [
          | inl yes' ↦
              let same : there.0.path ≡ w.path = one_value words numbers respects there.0.path w.path k.path e.bounds k.bounds yes' (subst (λ q. IsPlace words numbers there.0.path q e.bounds) f.2 there.2.at) is.at in
              both_kinds e k there.0 w there.2.kind_is there.2.bounds_are is.kind_is is.bounds_are ∙ keeps f.0 there.0 there.1 same
          | inr no' ↦ and_false (same_kind e.kind k.kind) (same_array e.bounds k.bounds) no'
        ]

    -- and a value that keeps none opens anew
    pub keeps_none : KeepsValue vs w None → keeps_value old new k.path ≡ false
    keeps_none keeps = ap (both_same same_value (value_by_path (all_kinds old) k.path)) new_found ∙ not_kept keeps (value_by_path (all_kinds old) k.path) refl
