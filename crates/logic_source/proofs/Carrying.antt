-- What goes over from one source to another is in the range of its kind.
use Rattle.std.proofs.Common.{◌≡◌, ◌∙◌, ap, sym, subst, refl, true, false, Bool, List, [], ◌∷◌, map, Option, Some, None, inl, inr}
use Rattle.std.specs.Prelude.{if◌then◌else◌}
use Rattle.std.specs.List.{All, AllByRecursion}
use Rattle.std.proofs.lemmas.Bool.{cases_Bool, and_parts}
use Rattle.std.proofs.lemmas.List.Elements.{All-from_recursion, recursion_from_All}
use Rattle.plant_types.specs.declared.values.Kind.{Kind}
use Rattle.plant_types.specs.declared.values.Kind.TheVariants as kind
use Rattle.plant_types.specs.Values.{is_in_range, Path}
use Rattle.std_blocks.specs.Calls.{Call}
use Rattle.st_blocks.specs.Chains.{Among}
use Rattle.st_tree.specs.Kinds.{same_kind}
use Rattle.st_typing.specs.First.{first_that}
use Rattle.logic_source.specs.Source.{Source}
use Rattle.logic_source.specs.Worlds.{World, same_path, opening}
use Rattle.logic_source.specs.Layout.{NoneTwice, IsDistinctlyNamed}
use Rattle.logic_source.specs.Ranges.{KindAt, all_kinds, AllInRange}
use Rattle.logic_source.specs.Carried.{same_array, same_value, both_same, value_by_path, keeps_value, keeps_calls, carried}
use Rattle.logic_source.proofs.Paths.{path_is, path_same}
use Rattle.logic_source.proofs.KindPaths.{Holds, path, kinds_once, absent_in}

one_kind : (k l : Kind) → same_kind k l ≡ true → k ≡ l
one_kind kind.Bool kind.Bool is = refl
one_kind kind.Dint kind.Dint is = refl
one_kind kind.Time kind.Time is = refl
one_kind kind.Bool kind.Dint is = absurd (cc)
one_kind kind.Bool kind.Time is = absurd (cc)
one_kind kind.Dint kind.Bool is = absurd (cc)
one_kind kind.Dint kind.Time is = absurd (cc)
one_kind kind.Time kind.Bool is = absurd (cc)
one_kind kind.Time kind.Dint is = absurd (cc)

-- what is found by a path, by whether the first has it
abbrev pub found_by : KindAt → List KindAt → Path → Bool → Option KindAt
found_by x xs q b = if b then Some x else first_that (λ (v : KindAt). same_path v.path q) xs

-- each value is found by its path
pub kind_found : (xs : List KindAt) (v : KindAt) → NoneTwice (map path xs) → Among xs v → value_by_path xs v.path ≡ Some v
kind_found [] v once here = elim here [ ]
kind_found (x ∷ xs) v once (inl is) =
    let same : same_path x.path v.path ≡ true = subst (λ (y : KindAt). same_path x.path y.path ≡ true) is (path_same x.path) in
    ap (found_by x xs v.path) same ∙ ap Some is
kind_found (x ∷ xs) v once (inr later) = ap (found_by x xs v.path) (absent_in x.path v xs once.0 later) ∙ kind_found xs v once.1 later

-- what is found by its path is in the range of the kind that is found
found_in : (w : World) (xs : List KindAt) (q : Path) (v : KindAt) → AllByRecursion (Holds w) xs → value_by_path xs q ≡ Some v → is_in_range v.kind (w.values q) ≡ true
found_in w [] q v all is = absurd (cc)
found_in w (x ∷ xs) q v all is =
    elim (cases_Bool (same_path x.path q)) [
      | inl yes' ↦
          let found : Some x ≡ Some v = sym (ap (found_by x xs q) yes') ∙ is in
          let one : x ≡ v = cc in
          subst (λ (y : KindAt). is_in_range y.kind (w.values q) ≡ true) one (subst (λ (p : Path). is_in_range x.kind (w.values p) ≡ true) (path_is x.path q yes') all.0)
      | inr no' ↦ found_in w xs q v all.1 (sym (ap (found_by x xs q) no') ∙ is)
    ]

each_in : (P : KindAt → Type 0) (xs : List KindAt) → ((v : KindAt) → Among xs v → P v) → AllByRecursion P xs
each_in P [] each = tt
each_in P (x ∷ xs) each = (each x (inl refl), each_in P xs (λ v here. each v (inr here)))

among_in : (P : KindAt → Type 0) (xs : List KindAt) (v : KindAt) → AllByRecursion P xs → Among xs v → P v
among_in P [] v all here = elim here [ ]
among_in P (x ∷ xs) v all (inl is) = subst P is all.0
among_in P (x ∷ xs) v all (inr later) = among_in P xs v all.1 later

module _ (old new : Source) (w : World) (named : IsDistinctlyNamed new) (before : AllInRange old w) (opens : AllInRange new (opening new)) where
  value_kept : (v : KindAt) → (o : Option KindAt) → value_by_path (all_kinds old) v.path ≡ o → both_same same_value o (Some v) ≡ true → is_in_range v.kind (w.values v.path) ≡ true
  value_kept v None is same = absurd (cc)
  value_kept v (Some u) is same =
      let kind = (and_parts (same_kind u.kind v.kind) (same_array u.bounds v.bounds) same).0 in
      subst (λ (l : Kind). is_in_range l (w.values v.path) ≡ true) (one_kind u.kind v.kind kind) (found_in w (all_kinds old) v.path u (recursion_from_All (Holds w) (all_kinds old) before.values) is)

  value_carried : (v : KindAt) → Among (all_kinds new) v → Holds (carried old new w) v
  value_carried v here = by_test (keeps_value old new v.path) refl
    where
      by_test : (b : Bool) → keeps_value old new v.path ≡ b → is_in_range v.kind (if b then w.values v.path else (opening new).values v.path) ≡ true
      by_test true keeps =
          let found = kind_found (all_kinds new) v (kinds_once new named) here in
          value_kept v (value_by_path (all_kinds old) v.path) refl (ap (both_same same_value (value_by_path (all_kinds old) v.path)) (sym found) ∙ keeps)
      by_test false anew = among_in (Holds (opening new)) (all_kinds new) v (recursion_from_All (Holds (opening new)) (all_kinds new) opens.values) here

  calls_carried : (q : Path) → All (λ (c : Call). is_in_range kind.Time c.pt ≡ true) ((carried old new w).calls q)
  calls_carried q = by_test (keeps_calls old new q)
    where
      by_test : (b : Bool) → All (λ (c : Call). is_in_range kind.Time c.pt ≡ true) (if b then w.calls q else (opening new).calls q)
      by_test true = before.calls q
      by_test false = opens.calls q

  pub carried_in_range : AllInRange new (carried old new w)
  carried_in_range = record {
    values = All-from_recursion (Holds (carried old new w)) (all_kinds new) (each_in (Holds (carried old new w)) (all_kinds new) value_carried);
    calls = calls_carried;
  }
