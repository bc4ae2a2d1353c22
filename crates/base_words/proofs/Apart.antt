-- Of names that are apart, the one that is found is the first, and one more that isn't found leaves them apart.
use Rattle.std.proofs.Common.{◌≡◌, ℕ, zero, suc, ◌+◌, ◌<◌, inl, inr, Bool, true, false, Option, Some, None, List, [], ◌∷◌, ◌++◌, length, arith, refl, ap, sym, ◌∙◌}
use Rattle.std.proofs.lemmas.Bool.{cases_lt, cases_Bool}
use Rattle.std.proofs.lemmas.Bool.Decides.{nat_tests}
use Rattle.std.proofs.lemmas.List.{length-append, get_or_append_left, get_or-append-add}
use Rattle.std.specs.Prelude.{slice_index_or, position, is_some, nat_lt}
use Rattle.std.specs.List.{list_any, position_or_len}
use Rattle.std.specs.Cmp.Lexicographic.{bytes_decides}
use Rattle.base_words.specs.declared.table.Case.{Case}
use Rattle.base_words.specs.Tables.{key, is_alike}
use Rattle.base_words.specs.Found.{AreApart, IsFound}
use Rattle.base_words.proofs.Numbering.{position-none, is_some-position}

-- where none passes, none is there
none_any : {X : Type 0} (p : X → Bool) (xs : List X) (d : X) → ((k : ℕ) → k < length xs → p (slice_index_or xs k d) ≡ false) → list_any p xs ≡ false
none_any p [] d none = refl
none_any p (x ∷ xs) d none = let first : p x ≡ false = none 0 (omega arith) in rw first (none_any p xs d (λ k less. none (suc k) (omega (arith, less))))

not_there : {X : Type 0} (p : X → Bool) (xs : List X) (d : X) (i : ℕ) → i < length xs → list_any p xs ≡ false → p (slice_index_or xs i d) ≡ true → ⊥
not_there p [] d i less none is = absurd (omega (arith, less))
not_there p (x ∷ xs) d zero less none is = (let no : true ≡ false = (rw is at none) in cc)
not_there p (x ∷ xs) d (suc i) less none is =
    elim (cases_Bool (p x)) [
      | inl so ↦ (let no : true ≡ false = (rw so at none) in cc)
      | inr isnt ↦ not_there p xs d i (omega (arith, less)) (rw isnt at none) is
    ]

-- where one passes and none before it does, its place is the first
first_place : {X : Type 0} (p : X → Bool) (xs : List X) (d : X) (k : ℕ) → k < length xs → p (slice_index_or xs k d) ≡ true → ((j : ℕ) → j < k → p (slice_index_or xs j d) ≡ false) → position_or_len p xs ≡ k
first_place p [] d k less is none = absurd (omega (arith, less))
first_place p (x ∷ xs) d zero less is none = rw is refl
first_place p (x ∷ xs) d (suc k) less is none =
    let first : p x ≡ false = none 0 (omega arith) in
    let rest = first_place p xs d k (omega (arith, less)) is (λ j low. none (suc j) (omega (arith, low))) in
    rw first (omega (arith, rest))

first_only : {X : Type 0} (p : X → Bool) (xs : List X) (d : X) (k : ℕ) → k < length xs → p (slice_index_or xs k d) ≡ true → ((j : ℕ) → j < k → p (slice_index_or xs j d) ≡ false) → position p xs ≡ Some k
first_only p xs d k less is none =
    let place = first_place p xs d k less is none in
    let within : nat_lt (position_or_len p xs) (length xs) ≡ true = grind (arith, nat_tests) in
    rw within (ap Some place)

alike_keys : (letters : Case) (a b : List ℕ) → is_alike letters a b ≡ true → key letters a ≡ key letters b
alike_keys letters a b = (bytes_decides (key letters a) (key letters b)).0

pub number_found : (letters : Case) (names : List (List ℕ)) (name : List ℕ) (found : Option ℕ) → AreApart letters names → IsFound letters names name found → found ≡ position (is_alike letters name) names
number_found letters names name None apart is = sym (position-none (is_alike letters name) names (none_any (is_alike letters name) names [] (λ k less. is k (omega arith) less)))
number_found letters names name (Some k) apart is =
    sym (first_only (is_alike letters name) names [] k is.0 is.1 (λ j low. elim (cases_Bool (is_alike letters name (slice_index_or names j []))) [
      | inl alike ↦ absurd (apart j k low is.0 (sym (alike_keys letters name (slice_index_or names j []) alike) ∙ alike_keys letters name (slice_index_or names k []) is.1))
      | inr isnt ↦ isnt
    ]))

-- whether a name is there is whether it is found
pub is_there : (letters : Case) (names : List (List ℕ)) (name : List ℕ) (found : Option ℕ) → AreApart letters names → IsFound letters names name found → list_any (is_alike letters name) names ≡ is_some found
is_there letters names name found apart is = sym (is_some-position (is_alike letters name) names) ∙ ap is_some (sym (number_found letters names name found apart is))

-- names with one more that isn't there
pub apart_more : (letters : Case) (names : List (List ℕ)) (name : List ℕ) → AreApart letters names → list_any (is_alike letters name) names ≡ false → AreApart letters (names ++ name ∷ [])
apart_more letters names name apart none i k low high same =
    let long = length-append names (name ∷ []) in
    let front : slice_index_or (names ++ name ∷ []) i [] ≡ slice_index_or names i [] = get_or_append_left names (name ∷ []) [] i (omega (arith, low, high, long)) in
    elim (cases_lt k (length names)) [
      | inl less ↦ apart i k low less (ap (key letters) (sym front) ∙ same ∙ ap (key letters) (get_or_append_left names (name ∷ []) [] k less))
      | inr last ↦ (
          let at : k ≡ length names + 0 = omega (arith, last, high, long) in
          let own : slice_index_or (names ++ name ∷ []) k [] ≡ name = ap (λ m. slice_index_or (names ++ name ∷ []) m []) at ∙ get_or-append-add names (name ∷ []) 0 [] in
          let one : key letters name ≡ key letters (slice_index_or names i []) = ap (key letters) (sym own) ∙ sym same ∙ ap (key letters) front in
          let alike : is_alike letters name (slice_index_or names i []) ≡ true = (bytes_decides (key letters name) (key letters (slice_index_or names i []))).1 one in
          not_there (is_alike letters name) names [] i (omega (arith, low, at)) none alike)
    ]
