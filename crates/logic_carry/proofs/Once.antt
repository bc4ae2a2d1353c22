-- No path has two places, and no number of a path stands twice.
use Rattle.std.proofs.Common.{◌≡◌, ◌∙◌, ap, sym, subst, refl, arith, ℕ, zero, suc, ◌≤◌, false, List, [], ◌∷◌, map, Option, Some, None, slice_get}
use Rattle.std.proofs.lemmas.Bool.{both_ways}
use Rattle.plant_types.specs.Values.{Path}
use Rattle.logic_source.specs.Worlds.{same_path}
use Rattle.logic_source.specs.Source.{Source}
use Rattle.logic_source.specs.Layout.{ClockAt, Absent, NoneTwice, IsDistinctlyNamed, clock_paths, all_clocks}
use Rattle.logic_source.specs.Ranges.{all_kinds}
use Rattle.logic_source.proofs.Paths.{path_same}
use Rattle.logic_source.proofs.KindPaths.{path, kinds_once}
use Rattle.logic_source.proofs.Layouts.{clocks_once}
use Rattle.plant_types.specs.declared.values.Bounds.{Bounds}
use Rattle.logic_carry.specs.declared.lists.ValueAt.{ValueAt}
use Rattle.logic_carry.specs.declared.lists.StandardAt.{StandardAt}
use Rattle.logic_carry.specs.Paths.{AreNumbered, IsAt, IsPlace, TellsWords, path_key, element_word}
use Rattle.logic_carry.specs.Lists.{AreValues, AreStandards}
use Rattle.logic_carry.specs.Keeping.{AreOnce, value_path, standard_path}
use Rattle.logic_carry.proofs.Tables.{one_path}
use Rattle.logic_carry.proofs.Placing.{mapped_at, at_mapped}
use Rattle.logic_carry.proofs.Keeping.{one_place, kind_there}

pub absent_at : (p : Path) (ps : List Path) (n : ℕ) (q : Path) → Absent p ps → slice_get ps n ≡ Some q → same_path p q ≡ false
absent_at p [] n q none at = absurd (cc)
absent_at p (x ∷ xs) zero q none at = let same : x ≡ q = cc in ap (same_path p) (sym same) ∙ none.0
absent_at p (x ∷ xs) (suc n) q none at = absent_at p xs n q none.1 at

not_again : (p : Path) (ps : List Path) (n : ℕ) → Absent p ps → slice_get ps n ≡ Some p → ⊥
not_again p ps n none at = both_ways (same_path p p) (absent_at p ps n p none at) (path_same p)

pub paths_once : (ps : List Path) → NoneTwice ps → (j k : ℕ) (p : Path) → slice_get ps j ≡ Some p → slice_get ps k ≡ Some p → j ≡ k
paths_once [] once j k p at at' = absurd (cc)
paths_once (x ∷ xs) once zero zero p at at' = refl
paths_once (x ∷ xs) once zero (suc k) p at at' = (let same : x ≡ p = cc in absurd (not_again x xs k once.0 (at' ∙ ap Some (sym same))))
paths_once (x ∷ xs) once (suc j) zero p at at' = (let same : x ≡ p = cc in absurd (not_again x xs j once.0 (at ∙ ap Some (sym same))))
paths_once (x ∷ xs) once (suc j) (suc k) p at at' = ap suc (paths_once xs once.1 j k p at at')

-- a standard block that is listed is that of a path
pub record Standing (words : List ℕ → Option ℕ) (numbers : ℕ → Option ℕ) (s : StandardAt) (c : ClockAt) : Type 0 where
  pub at : IsAt words numbers s.path c.path
  pub of_is : s.of ≡ c.of

abbrev pub clock_path : ClockAt → Path
clock_path c = c.path

module _ (words : List ℕ → Option ℕ) (numbers : ℕ → Option ℕ) where
  pub standard_there : (ss : List StandardAt) (cs : List ClockAt) (n : ℕ) (c : ClockAt) → AreStandards words numbers ss cs → slice_get cs n ≡ Some c → (s : StandardAt) × (slice_get ss n ≡ Some s) × Standing words numbers s c
  standard_there [] [] n c are at = absurd (cc)
  standard_there [] (x ∷ xs) n c are at = elim are [ ]
  standard_there (s ∷ ss) [] n c are at = elim are [ ]
  standard_there (s ∷ ss) (x ∷ xs) zero c are at =
      let same : x ≡ c = cc in
      (s, refl, subst (λ (y : ClockAt). Standing words numbers s y) same (record { at = are.0; of_is = are.1 }))
  standard_there (s ∷ ss) (x ∷ xs) (suc n) c are at = standard_there ss xs n c are.2 at

  pub clock_there : (ss : List StandardAt) (cs : List ClockAt) (n : ℕ) (s : StandardAt) → AreStandards words numbers ss cs → slice_get ss n ≡ Some s → (c : ClockAt) × (slice_get cs n ≡ Some c) × Standing words numbers s c
  clock_there [] [] n s are at = absurd (cc)
  clock_there [] (x ∷ xs) n s are at = elim are [ ]
  clock_there (w ∷ ws) [] n s are at = elim are [ ]
  clock_there (w ∷ ws) (x ∷ xs) zero s are at =
      let same : w ≡ s = cc in
      (x, refl, subst (λ (y : StandardAt). Standing words numbers y x) same (record { at = are.0; of_is = are.1 }))
  clock_there (w ∷ ws) (x ∷ xs) (suc n) s are at = clock_there ws xs n s are.2 at

  -- a number is at most how many there are
  at_most : (count : ℕ) → AreNumbered numbers count → (n : ℕ) (p : Path) → IsAt words numbers n p → n ≤ count
  at_most count are n [] at = let none : n ≡ 0 = at in omega (arith, none)
  at_most count are n (name ∷ p) at = are.within (path_key at.0 at.1) n at.3

  pub place_most : (count : ℕ) → AreNumbered numbers count → (n : ℕ) (p : Path) (b : Option Bounds) → IsPlace words numbers n p b → n ≤ count
  place_most count are n p None at = at_most count are n p at
  place_most count are n p (Some b) at = are.within (path_key at.parent (element_word at.shift)) n at.found

  pub standing_most : (count : ℕ) → AreNumbered numbers count → (s : StandardAt) (c : ClockAt) → Standing words numbers s c → s.path ≤ count
  standing_most count are s c is = at_most count are s.path c.path is.at

  module _ (count : ℕ) (tells : TellsWords words) (are : AreNumbered numbers count) (source : Source) (named : IsDistinctlyNamed source) where
    pub values_once : (vs : List ValueAt) → AreValues words numbers vs (all_kinds source) → AreOnce (map value_path vs)
    values_once vs vs_are j k n at at' =
        let v = at_mapped value_path vs j n at in
        let w = at_mapped value_path vs k n at' in
        let a = kind_there words numbers vs (all_kinds source) j v.0 vs_are v.1 in
        let b = kind_there words numbers vs (all_kinds source) k w.0 vs_are w.1 in
        let same : v.0.path ≡ w.0.path = v.2 ∙ sym w.2 in
        let paths : a.0.path ≡ b.0.path = one_place words numbers count tells are v.0.path a.0.path b.0.path a.0.bounds b.0.bounds a.2.at (subst (λ (m : ℕ). IsPlace words numbers m b.0.path b.0.bounds) (sym same) b.2.at) in
        paths_once (map path (all_kinds source)) (kinds_once source named) j k b.0.path (mapped_at path (all_kinds source) j a.0 a.1 ∙ ap Some paths) (mapped_at path (all_kinds source) k b.0 b.1)

    pub standards_once : (ss : List StandardAt) → AreStandards words numbers ss (all_clocks source) → AreOnce (map standard_path ss)
    standards_once ss ss_are j k n at at' =
        let v = at_mapped standard_path ss j n at in
        let w = at_mapped standard_path ss k n at' in
        let a = clock_there ss (all_clocks source) j v.0 ss_are v.1 in
        let b = clock_there ss (all_clocks source) k w.0 ss_are w.1 in
        let same : v.0.path ≡ w.0.path = v.2 ∙ sym w.2 in
        let paths : a.0.path ≡ b.0.path = one_path words numbers count tells are v.0.path a.0.path b.0.path a.2.at (subst (λ (m : ℕ). IsAt words numbers m b.0.path) (sym same) b.2.at) in
        paths_once (clock_paths source) (clocks_once source named) j k b.0.path (mapped_at clock_path (all_clocks source) j a.0 a.1 ∙ ap Some paths) (mapped_at clock_path (all_clocks source) k b.0 b.1)
