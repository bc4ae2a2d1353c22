-- The calls that go over by the numbers of paths are those that go over by paths.
use Rattle.std.proofs.Common.{◌≡◌, ◌∙◌, ap, sym, subst, refl, ℕ, zero, suc, true, false, Bool, List, [], ◌∷◌, map, Option, Some, None, slice_get, inl, inr}
use Rattle.std.specs.Prelude.{if◌then◌else◌, option_map}
use Rattle.std.proofs.lemmas.Bool.{cases_Bool}
use Rattle.st_names.specs.First.{first_that}
use Rattle.logic_source.specs.declared.logic.BlockRef.{BlockRef}
use Rattle.logic_source.specs.Source.{Source}
use Rattle.plant_types.specs.Values.{Path}
use Rattle.logic_source.specs.Worlds.{same_path}
use Rattle.logic_source.specs.Layout.{ClockAt, NoneTwice, IsDistinctlyNamed, all_clocks}
use Rattle.logic_source.specs.Carried.{both_same, same_standard, block_by_path, keeps_calls}
use Rattle.logic_source.proofs.Paths.{path_is, path_same}
use Rattle.logic_source.proofs.Layouts.{clocks_once}
use Rattle.logic_carry.specs.declared.lists.StandardAt.{StandardAt}
use Rattle.logic_carry.specs.Paths.{AreNumbered, IsAt, Respects, TellsWords}
use Rattle.logic_carry.specs.Lists.{AreStandards}
use Rattle.logic_carry.specs.Keeping.{KeepsCalls}
use Rattle.logic_carry.proofs.Tables.{one_number, one_path}
use Rattle.logic_carry.proofs.Placing.{mapped_at}
use Rattle.logic_carry.proofs.Once.{Standing, absent_at, clock_path, standard_there, clock_there}

abbrev first_clock : List ClockAt → Path → Option ClockAt
first_clock cs q = first_that (λ (c : ClockAt). same_path c.path q) cs

abbrev clock_by : ClockAt → List ClockAt → Path → Bool → Option ClockAt
clock_by x xs q b = if b then Some x else first_clock xs q

-- each standard block is found by its path
clock_first : (cs : List ClockAt) (n : ℕ) (c : ClockAt) → NoneTwice (map clock_path cs) → slice_get cs n ≡ Some c → first_clock cs c.path ≡ Some c
clock_first [] n c once at = absurd (cc)
clock_first (x ∷ xs) zero c once at =
    let is : x ≡ c = cc in
    let same : same_path x.path c.path ≡ true = subst (λ (y : ClockAt). same_path x.path y.path ≡ true) is (path_same x.path) in
    ap (clock_by x xs c.path) same ∙ ap Some is
clock_first (x ∷ xs) (suc n) c once at =
    let other : same_path x.path c.path ≡ false = absent_at x.path (map clock_path xs) n c.path once.0 (mapped_at clock_path xs n c at) in
    ap (clock_by x xs c.path) other ∙ clock_first xs n c once.1 at

-- what is found by a path stands somewhere
clock_at : (cs : List ClockAt) (q : Path) (c : ClockAt) → first_clock cs q ≡ Some c → (n : ℕ) × (slice_get cs n ≡ Some c) × (c.path ≡ q)
clock_at [] q c is = absurd (cc)
clock_at (x ∷ xs) q c is = elim (cases_Bool (same_path x.path q)) [
  | inl yes' ↦
      let here : Some x ≡ Some c = sym (ap (clock_by x xs q) yes') ∙ is in
      let one : x ≡ c = cc in
      (0, ap Some one, subst (λ (y : ClockAt). y.path ≡ q) one (path_is x.path q yes'))
  | inr no' ↦ let rest = clock_at xs q c (sym (ap (clock_by x xs q) no') ∙ is) in (suc rest.0, rest.1, rest.2)
]

abbrev of_clock : ClockAt → BlockRef
of_clock c = c.of

module _ (words : List ℕ → Option ℕ) (numbers : ℕ → Option ℕ) (count : ℕ) (respects : Respects words) (tells : TellsWords words) (are : AreNumbered numbers count) (old new : Source) (named : IsDistinctlyNamed old) (named' : IsDistinctlyNamed new)
    (ss : List StandardAt) (ss_are : AreStandards words numbers ss (all_clocks old)) where
  module _ (t : StandardAt) (c : ClockAt) (is : Standing words numbers t c) (n : ℕ) (here : slice_get (all_clocks new) n ≡ Some c) where
    new_found : block_by_path (all_clocks new) c.path ≡ Some c.of
    new_found = ap (option_map of_clock) (clock_first (all_clocks new) n c (clocks_once new named') here)

    -- a standard block that keeps calls keeps those of an old one at its path, and they go over
    pub calls_some : (j : ℕ) → KeepsCalls ss t (Some j) → (o : ClockAt) × (slice_get (all_clocks old) j ≡ Some o) × (o.path ≡ c.path) × (same_standard o.of c.of ≡ true) × (keeps_calls old new c.path ≡ true)
    calls_some j keeps =
        let there = clock_there words numbers ss (all_clocks old) j keeps.0 ss_are keeps.1 in
        let o = there.0 in
        let blocks : same_standard o.of c.of ≡ true = (λ i. same_standard (sym there.2.of_is i) (sym is.of_is i)) ∙ keeps.3 in
        let same : o.path ≡ c.path = one_path words numbers count tells are t.path o.path c.path (subst (λ (m : ℕ). IsAt words numbers m o.path) keeps.2 there.2.at) is.at in
        let old_found : block_by_path (all_clocks old) c.path ≡ Some o.of = ap (block_by_path (all_clocks old)) (sym same) ∙ ap (option_map of_clock) (clock_first (all_clocks old) j o (clocks_once old named) there.1) in
        (o, there.1, same, blocks, (λ i. both_same same_standard (old_found i) (new_found i)) ∙ blocks)

    not_kept : KeepsCalls ss t None → (o : Option ClockAt) → first_clock (all_clocks old) c.path ≡ o → both_same same_standard (option_map of_clock o) (Some c.of) ≡ false
    not_kept keeps None found = refl
    not_kept keeps (Some e) found =
        let f = clock_at (all_clocks old) c.path e found in
        let there = standard_there words numbers ss (all_clocks old) f.0 e ss_are f.1 in
        let same : there.0.path ≡ t.path = one_number words numbers respects there.0.path t.path c.path (subst (λ (q : Path). IsAt words numbers there.0.path q) f.2 there.2.at) is.at in
        (λ i. same_standard (sym there.2.of_is i) (sym is.of_is i)) ∙ keeps f.0 there.0 there.1 same

    -- and one that keeps none begins anew
    pub calls_none : KeepsCalls ss t None → keeps_calls old new c.path ≡ false
    calls_none keeps = ap (both_same same_standard (block_by_path (all_clocks old) c.path)) new_found ∙ not_kept keeps (first_clock (all_clocks old) c.path) refl
