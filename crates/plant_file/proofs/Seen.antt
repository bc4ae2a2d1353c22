-- The keys of a table, one after another; lists in which nothing stands twice, as they grow.
use Rattle.std.proofs.Common.{◌≡◌, ◌∙◌, ap, sym, refl, ℕ, ◌+◌, ◌<◌, Bool, true, false, not, List, [], ◌∷◌, ◌++◌, map, take, drop, length, get_or, inl, inr, String, Global, string_bytes, arith}
use Rattle.std.proofs.lemmas.List.{map_push, take_more, drop_more, take-append-drop, map-append}
use Rattle.std.proofs.lemmas.List.Folds.{list_any-append}
use Rattle.std.proofs.lemmas.Bool.{cases_Bool, or_parts, or_cases, or_left, or_right, both_ways}
use Rattle.std.specs.List.{list_any, list_all}
use Rattle.std.proofs.lemmas.Bool.Decides.{nat_tests}
use Rattle.std.specs.Cmp.Lexicographic.{bytes_decides}
use Rattle.std.specs.Map.{keys_of}
use Rattle.std.specs.Prelude.{nat_eq, if◌then◌else◌}
use Rattle.indexmap.specs.IndexSet.{insert_key}
use Rattle.std.specs.Str.{bytes_eq}
use Rattle.toml.specs.declared.value.Value.{Value}
use Rattle.toml.specs.View.{members_view}
use Rattle.plant_file.specs.Lists.{repeats}
use Rattle.plant_file.specs.PlantFiles.{has_only}

-- each key is among those that are known
pub only_keys : (keys : List (List ℕ)) (es : List (String Global × Value)) → list_all (λ (k : String Global). list_any (bytes_eq (string_bytes k)) keys) (keys_of es) ≡ has_only keys (members_view es)
only_keys keys [] = refl
only_keys keys (e ∷ es) = rw (only_keys keys es) refl

-- a test of two items that doesn't depend on which stands first
abbrev pub IsSymmetric : {A : Type 0} → (A → A → Bool) → Type 0
IsSymmetric {A} eq = (x y : A) → eq x y ≡ eq y x

pub bytes_symmetric : IsSymmetric bytes_eq
bytes_symmetric x y =
    elim (cases_Bool (bytes_eq x y)) [
      | inl so ↦ so ∙ sym ((bytes_decides y x).1 (sym ((bytes_decides x y).0 so)))
      | inr not_so ↦ elim (cases_Bool (bytes_eq y x)) [
        | inl so ↦ absurd (both_ways (bytes_eq x y) not_so ((bytes_decides x y).1 (sym ((bytes_decides y x).0 so))))
        | inr too ↦ not_so ∙ sym too
      ]
    ]

pub numbers_symmetric : IsSymmetric nat_eq
numbers_symmetric x y = grind (arith, nat_tests)

repeats_push : {A : Type 0} (eq : A → A → Bool) → IsSymmetric eq → (xs : List A) (x : A) → repeats eq xs ≡ false → list_any (eq x) xs ≡ false → repeats eq (xs ++ x ∷ []) ≡ false
repeats_push eq symmetric [] x once new = refl
repeats_push eq symmetric (w ∷ ws) x once new =
    let before = or_parts (list_any (eq w) ws) (repeats eq ws) once in
    let others = or_parts (eq x w) (list_any (eq x) ws) new in
    let apart : eq w x ≡ false = symmetric w x ∙ others.0 in
    let alone : list_any (eq w) (ws ++ x ∷ []) ≡ false = list_any-append (eq w) ws (x ∷ []) ∙ rw (before.0, apart) refl in
    rw alone (repeats_push eq symmetric ws x before.1 others.1)

repeats_found : {A : Type 0} (eq : A → A → Bool) → IsSymmetric eq → (ws ys : List A) (x : A) → list_any (eq x) ws ≡ true → repeats eq (ws ++ x ∷ ys) ≡ true
repeats_found eq symmetric [] ys x among = absurd (cc)
repeats_found eq symmetric (w ∷ ws) ys x among =
    elim (or_cases (eq x w) (list_any (eq x) ws) among) [
      | inl same ↦ let among' : list_any (eq w) (ws ++ x ∷ ys) ≡ true = list_any-append (eq w) ws (x ∷ ys) ∙ or_right (list_any (eq w) ws) (list_any (eq w) (x ∷ ys)) (or_left (eq w x) (list_any (eq w) ys) (symmetric w x ∙ same)) in or_left (list_any (eq w) (ws ++ x ∷ ys)) (repeats eq (ws ++ x ∷ ys)) among'
      | inr later ↦ or_right (list_any (eq w) (ws ++ x ∷ ys)) (repeats eq (ws ++ x ∷ ys)) (repeats_found eq symmetric ws ys x later)
    ]

-- the first i items of a list, under f, of which none stands twice
pub record Gone {A B : Type 0} (eq : B → B → Bool) (f : A → B) (items : List A) (i : ℕ) (found : List B) : Type 0 where
  pub are : found ≡ map f (take i items)
  pub once : repeats eq (map f (take i items)) ≡ false

pub gone_more : {A B : Type 0} (eq : B → B → Bool) → IsSymmetric eq → (f : A → B) (items : List A) (i : ℕ) (d x : A) (found more : List B) → i < length items → x ≡ get_or items i d → Gone eq f items i found → list_any (eq (f x)) found ≡ false → more ≡ found ++ f x ∷ [] → Gone eq f items (i + 1) more
gone_more eq symmetric f items i d x found more within is gone free new =
    let step : take (i + 1) items ≡ take i items ++ x ∷ [] = take_more items i d within ∙ ap (λ y. take i items ++ y ∷ []) (sym is) in
    let pushed : map f (take i items ++ x ∷ []) ≡ map f (take i items) ++ f x ∷ [] = map_push f (take i items) x in
    let free' : list_any (eq (f x)) (map f (take i items)) ≡ false = ap (list_any (eq (f x))) (sym gone.are) ∙ free in
    record {
      are = new ∙ ap (λ ws. ws ++ f x ∷ []) gone.are ∙ sym pushed ∙ ap (map f) (sym step);
      once = ap (λ ys. repeats eq (map f ys)) step ∙ ap (repeats eq) pushed ∙ repeats_push eq symmetric (map f (take i items)) (f x) gone.once free';
    }

pub gone_again : {A B : Type 0} (eq : B → B → Bool) → IsSymmetric eq → (f : A → B) (items : List A) (i : ℕ) (d x : A) (found : List B) → i < length items → x ≡ get_or items i d → Gone eq f items i found → list_any (eq (f x)) found ≡ true → repeats eq (map f items) ≡ true
gone_again eq symmetric f items i d x found within is gone again =
    let rest = drop (i + 1) items in
    let split : items ≡ take i items ++ x ∷ rest = sym (take-append-drop i items) ∙ ap (λ ys. take i items ++ ys) (drop_more items i d within ∙ ap (λ y. y ∷ rest) (sym is)) in
    let again' : list_any (eq (f x)) (map f (take i items)) ≡ true = ap (list_any (eq (f x))) (sym gone.are) ∙ again in
    ap (λ ys. repeats eq (map f ys)) split ∙ ap (repeats eq) (map-append f (take i items) (x ∷ rest)) ∙ repeats_found eq symmetric (map f (take i items)) (map f rest) (f x) again'

-- what was added or not, and what was there before
pub was_there : (added there : Bool) → added ≡ not there → added ≡ false → there ≡ true
was_there added true e f = refl
was_there added false e f = let both : true ≡ false = sym e ∙ f in absurd (cc both)

pub was_new : (added there : Bool) → added ≡ not there → added ≡ true → there ≡ false
was_new added false e f = refl
was_new added true e f = let both : false ≡ true = sym e ∙ f in absurd (cc both)

pub grown : {A : Type 0} (added : Bool) (more less new : A) → new ≡ (if added then more else less) → added ≡ true → new ≡ more
grown added more less new e f = e ∙ rw f refl

pub inserted : {A : Type 0} (eq : A → A → Bool) (ks new : List A) (k : A) → new ≡ insert_key eq ks k → list_any (eq k) ks ≡ false → new ≡ ks ++ k ∷ []
inserted eq ks new k e free = e ∙ rw free refl
