-- Names that are picked out of a list of names that are apart.
use Rattle.std.proofs.Common.{◌≡◌, ◌∙◌, ap, sym, refl, ℕ, Bool, true, false, List, [], ◌∷◌, ◌++◌, append_assoc, map, Option, Some, None, inl, inr}
use Rattle.std.proofs.lemmas.Bool.{cases_Bool, or_parts, or_from}
use Rattle.std.proofs.lemmas.List.Folds.{list_any-append}
use Rattle.std.specs.Prelude.{if◌then◌else◌, filter_map, option_and_then}
use Rattle.std.specs.List.{list_any, cons_option}
use Rattle.std.specs.Str.{bytes_eq}
use Rattle.std.specs.Cmp.Lexicographic.{bytes_decides}
use Rattle.st_typing.specs.First.{first_that}
use Rattle.st_typing.specs.Taken.{is_among, repeats}
use Rattle.st_typing.proofs.Entries.{turned}

-- none of a list has a word that is not among its words
none_first : {A : Type 0} (word : A → List ℕ) (items : List A) (w : List ℕ) → is_among (map word items) w ≡ false → first_that (λ a. bytes_eq (word a) w) items ≡ None
none_first word [] w absent = refl
none_first word (a ∷ rest) w absent =
    let parts = or_parts (bytes_eq w (word a)) (is_among (map word rest) w) absent in
    let other : bytes_eq (word a) w ≡ false = turned (word a) w ∙ parts.0 in
    rw other (none_first word rest w parts.1)

module _ {A B : Type 0} (word : A → List ℕ) (name : B → List ℕ) where
  none_more : (test : List ℕ → Bool) (a : A) (o : Option B) (rest : List B) → ((b : B) → o ≡ Some b → name b ≡ word a) → test (word a) ≡ false → list_any test (map name rest) ≡ false → list_any test (map name (cons_option o rest)) ≡ false
  none_more test a None rest same here none = none
  none_more test a (Some b) rest same here none = let this : test (name b) ≡ false = ap test (same b refl) ∙ here in rw this none

  apart_more : (a : A) (o : Option B) (rest : List B) → ((b : B) → o ≡ Some b → name b ≡ word a) → is_among (map name rest) (word a) ≡ false → repeats (map name rest) ≡ false → repeats (map name (cons_option o rest)) ≡ false
  apart_more a None rest same here apart = apart
  apart_more a (Some b) rest same here apart = let alone : is_among (map name rest) (name b) ≡ false = ap (is_among (map name rest)) (same b refl) ∙ here in rw alone apart

  later : (a : A) (o : Option B) (rest : List B) (w : List ℕ) → ((b : B) → o ≡ Some b → name b ≡ word a) → bytes_eq (word a) w ≡ false → first_that (λ b. bytes_eq (name b) w) (cons_option o rest) ≡ first_that (λ b. bytes_eq (name b) w) rest
  later a None rest w same other = refl
  later a (Some b) rest w same other = let far : bytes_eq (name b) w ≡ false = ap (λ n. bytes_eq n w) (same b refl) ∙ other in rw far refl

  here : (a : A) (o : Option B) (rest : List B) (w : List ℕ) → ((b : B) → o ≡ Some b → name b ≡ word a) → bytes_eq (word a) w ≡ true → first_that (λ b. bytes_eq (name b) w) rest ≡ None → first_that (λ b. bytes_eq (name b) w) (cons_option o rest) ≡ o
  here a None rest w same found none = none
  here a (Some b) rest w same found none = let near : bytes_eq (name b) w ≡ true = ap (λ n. bytes_eq n w) (same b refl) ∙ found in rw near refl

  module _ (pick : A → Option B) (same : (a : A) (b : B) → pick a ≡ Some b → name b ≡ word a) where
    -- what is in none of the words isn't in those that are picked
    pub none_picked : (test : List ℕ → Bool) (items : List A) → list_any test (map word items) ≡ false → list_any test (map name (filter_map pick items)) ≡ false
    none_picked test [] none = refl
    none_picked test (a ∷ rest) none =
        let parts = or_parts (test (word a)) (list_any test (map word rest)) none in
        none_more test a (pick a) (filter_map pick rest) (same a) parts.0 (none_picked test rest parts.1)

    -- words that are picked are apart
    pub picked_apart : (items : List A) → repeats (map word items) ≡ false → repeats (map name (filter_map pick items)) ≡ false
    picked_apart [] apart = refl
    picked_apart (a ∷ rest) apart =
        let parts = or_parts (is_among (map word rest) (word a)) (repeats (map word rest)) apart in
        apart_more a (pick a) (filter_map pick rest) (same a) (none_picked (bytes_eq (word a)) rest parts.0) (picked_apart rest parts.1)

    -- the first of a name that is picked is picked of the first of the name
    pub first_picked : (items : List A) (w : List ℕ) → repeats (map word items) ≡ false → first_that (λ b. bytes_eq (name b) w) (filter_map pick items) ≡ option_and_then pick (first_that (λ a. bytes_eq (word a) w) items)
    first_picked [] w apart = refl
    first_picked (a ∷ rest) w apart =
        let parts = or_parts (is_among (map word rest) (word a)) (repeats (map word rest)) apart in
        let next = first_picked rest w parts.1 in
        elim (cases_Bool (bytes_eq (word a) w)) [
          | inl found ↦
              let absent : is_among (map word rest) w ≡ false = ap (is_among (map word rest)) (sym ((bytes_decides (word a) w).0 found)) ∙ parts.0 in
              let none = next ∙ ap (option_and_then pick) (none_first word rest w absent) in
              here a (pick a) (filter_map pick rest) w (same a) found none ∙ ap (λ b. option_and_then pick (if b then Some a else first_that (λ a. bytes_eq (word a) w) rest)) (sym found)
          | inr other ↦
              later a (pick a) (filter_map pick rest) w (same a) other ∙ next ∙ ap (λ b. option_and_then pick (if b then Some a else first_that (λ a. bytes_eq (word a) w) rest)) (sym other)
        ]

-- ---- names of two lists
-- a word that is none of either list is none of both together
pub none_both : (w : List ℕ) (xs ys : List (List ℕ)) → is_among xs w ≡ false → is_among ys w ≡ false → is_among (xs ++ ys) w ≡ false
none_both w xs ys left right = list_any-append (bytes_eq w) xs ys ∙ or_from (is_among xs w) (is_among ys w) left right

lacks_inserted : (x w : List ℕ) (xs ys : List (List ℕ)) → bytes_eq x w ≡ false → is_among (xs ++ ys) x ≡ false → is_among (xs ++ w ∷ ys) x ≡ false
lacks_inserted x w [] ys other none = rw other none
lacks_inserted x w (z ∷ zs) ys other none =
    let parts = or_parts (bytes_eq x z) (is_among (zs ++ ys) x) none in
    or_from (bytes_eq x z) (is_among (zs ++ w ∷ ys) x) parts.0 (lacks_inserted x w zs ys other parts.1)

pub inserted_apart : (w : List ℕ) (xs ys : List (List ℕ)) → is_among (xs ++ ys) w ≡ false → repeats (xs ++ ys) ≡ false → repeats (xs ++ w ∷ ys) ≡ false
inserted_apart w [] ys none apart = or_from (is_among ys w) (repeats ys) none apart
inserted_apart w (x ∷ xs) ys none apart =
    let parts = or_parts (is_among (xs ++ ys) x) (repeats (xs ++ ys)) apart in
    let others = or_parts (bytes_eq w x) (is_among (xs ++ ys) w) none in
    or_from (is_among (xs ++ w ∷ ys) x) (repeats (xs ++ w ∷ ys)) (lacks_inserted x w xs ys (turned x w ∙ others.0) parts.0) (inserted_apart w xs ys others.1 parts.1)

pub inserted_last : (w : List ℕ) (xs ys zs : List (List ℕ)) → is_among (xs ++ (ys ++ zs)) w ≡ false → repeats (xs ++ (ys ++ zs)) ≡ false → repeats (xs ++ (ys ++ w ∷ zs)) ≡ false
inserted_last w xs ys zs none apart =
    ap repeats (sym (append_assoc xs ys (w ∷ zs))) ∙ inserted_apart w (xs ++ ys) zs (ap (λ l. is_among l w) (append_assoc xs ys zs) ∙ none) (ap repeats (append_assoc xs ys zs) ∙ apart)

-- words that are picked by two picks, of which each leaves what the other takes, are apart
module _ {A B C : Type 0} (word : A → List ℕ) (name : B → List ℕ) (title : C → List ℕ) (pick : A → Option B) (other : A → Option C)
    (same : (a : A) (b : B) → pick a ≡ Some b → name b ≡ word a) (also : (a : A) (c : C) → other a ≡ Some c → title c ≡ word a) (never : (a : A) (b : B) (c : C) → pick a ≡ Some b → other a ≡ Some c → ⊥) where
  more_apart : (a : A) (o : Option B) (q : Option C) (bs : List B) (cs : List C) → pick a ≡ o → other a ≡ q → is_among (map name bs ++ map title cs) (word a) ≡ false → repeats (map name bs ++ map title cs) ≡ false
      → repeats (map name (cons_option o bs) ++ map title (cons_option q cs)) ≡ false
  more_apart a None None bs cs is too none apart = apart
  more_apart a (Some b) None bs cs is too none apart = or_from (is_among (map name bs ++ map title cs) (name b)) (repeats (map name bs ++ map title cs)) (ap (is_among (map name bs ++ map title cs)) (same a b is) ∙ none) apart
  more_apart a None (Some c) bs cs is too none apart = inserted_apart (title c) (map name bs) (map title cs) (ap (is_among (map name bs ++ map title cs)) (also a c too) ∙ none) apart
  more_apart a (Some b) (Some c) bs cs is too none apart = elim (never a b c is too) [ ]

  pub both_apart : (items : List A) → repeats (map word items) ≡ false → repeats (map name (filter_map pick items) ++ map title (filter_map other items)) ≡ false
  both_apart [] apart = refl
  both_apart (a ∷ rest) apart =
      let parts = or_parts (is_among (map word rest) (word a)) (repeats (map word rest)) apart in
      let first = none_picked word name pick same (bytes_eq (word a)) rest parts.0 in
      let second = none_picked word title other also (bytes_eq (word a)) rest parts.0 in
      more_apart a (pick a) (other a) (filter_map pick rest) (filter_map other rest) refl refl (none_both (word a) (map name (filter_map pick rest)) (map title (filter_map other rest)) first second) (both_apart rest parts.1)
