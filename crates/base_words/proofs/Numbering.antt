-- Texts that are numbered in their order, of which no two have one key, and a table of the numbers.
use Rattle.std.proofs.Common.{◌≡◌, ◌+◌, ◌<◌, ℕ, Bool, true, false, cond, List, [], ◌∷◌, ◌++◌, length, map, Option, Some, None, refl, sym, ◌∙◌, ap, subst, inl, inr, arith}
use Rattle.std.proofs.lemmas.Bool.{cases_Bool}
use Rattle.std.proofs.lemmas.Bool.Decides.{nat_tests}
use Rattle.std.proofs.lemmas.List.{length-append}
use Rattle.std.proofs.lemmas.List.Folds.{position_or_len_push}
use Rattle.std.specs.Prelude.{position, is_some, nat_lt}
use Rattle.std.specs.List.{position_or_len, list_any, AllZip}
use Rattle.std.specs.Str.{bytes_eq}
use Rattle.std.specs.Cmp.Lexicographic.{bytes_decides}

module _ {X : Type 0} (p : X → Bool) where
  pub place_within : (xs : List X) → list_any p xs ≡ true → position_or_len p xs < length xs
  place_within [] any = absurd (cc)
  place_within (x ∷ xs) any =
      elim (cases_Bool (p x)) [
        | inl is ↦ rw is (omega arith)
        | inr isnt ↦ (let rest = place_within xs (rw isnt at any) in rw isnt (omega (arith, rest)))
      ]

  pub place_behind : (xs : List X) → list_any p xs ≡ false → position_or_len p xs ≡ length xs
  place_behind [] none = refl
  place_behind (x ∷ xs) none =
      elim (cases_Bool (p x)) [
        | inl is ↦ absurd (let no : true ≡ false = (rw is at none) in cc)
        | inr isnt ↦ (let rest = place_behind xs (rw isnt at none) in rw isnt (omega (arith, rest)))
      ]

  pub position-any : (xs : List X) → list_any p xs ≡ true → position p xs ≡ Some (position_or_len p xs)
  position-any xs any =
      let less = place_within xs any in
      let is : nat_lt (position_or_len p xs) (length xs) ≡ true = grind (arith, nat_tests) in
      rw is refl

  pub position-none : (xs : List X) → list_any p xs ≡ false → position p xs ≡ None
  position-none xs none =
      let same = place_behind xs none in
      let isnt : nat_lt (position_or_len p xs) (length xs) ≡ false = grind (arith, nat_tests) in
      rw isnt refl

  -- whether one is found is whether one passes
  pub is_some-position : (xs : List X) → is_some (position p xs) ≡ list_any p xs
  is_some-position xs =
      elim (cases_Bool (list_any p xs)) [
        | inl any ↦ ap is_some (position-any xs any) ∙ sym any
        | inr none ↦ ap is_some (position-none xs none) ∙ sym none
      ]

  -- of a list with one more, where an earlier one passes
  pub position-push_any : (xs : List X) (y : X) → list_any p xs ≡ true → position p (xs ++ y ∷ []) ≡ position p xs
  position-push_any xs y any =
      let less = place_within xs any in
      let place : position_or_len p (xs ++ y ∷ []) ≡ position_or_len p xs = grind (arith, nat_tests, position_or_len_push p xs y) in
      let long : length (xs ++ y ∷ []) ≡ length xs + 1 = simp length-append (omega arith) in
      let is : nat_lt (position_or_len p xs) (length xs) ≡ true = grind (arith, nat_tests) in
      let still : nat_lt (position_or_len p xs) (length xs + 1) ≡ true = grind (arith, nat_tests) in
      rw (place, long, is, still) refl

  -- of a list with one more, where no earlier one passes
  pub position-push_none : (xs : List X) (y : X) → list_any p xs ≡ false → position p (xs ++ y ∷ []) ≡ cond (p y) (Some (length xs)) None
  position-push_none xs y none =
      let behind = place_behind xs none in
      let long : length (xs ++ y ∷ []) ≡ length xs + 1 = simp length-append (omega arith) in
      let place : position_or_len p (xs ++ y ∷ []) ≡ length xs + cond (p y) 0 1 = grind (arith, nat_tests, position_or_len_push p xs y) in
      elim (cases_Bool (p y)) [
        | inl is ↦ (let still : nat_lt (length xs + 0) (length xs + 1) ≡ true = grind (arith, nat_tests) in rw (place, long, is, still) (ap Some (omega arith)))
        | inr isnt ↦ (let no : nat_lt (length xs + 1) (length xs + 1) ≡ false = grind (arith, nat_tests) in rw (place, long, isnt, no) refl)
      ]

module _ (key : List ℕ → List ℕ) where
  -- whether two texts have one key
  abbrev pub same : List ℕ → List ℕ → Bool
  same a b = bytes_eq (key a) (key b)

  same_turned : (a b : List ℕ) → same a b ≡ false → same b a ≡ false
  same_turned a b not_so =
      elim (cases_Bool (same b a)) [
        | inl so ↦ absurd (let turned : same a b ≡ true = (bytes_decides (key a) (key b)).1 (sym ((bytes_decides (key b) (key a)).0 so)) in cc)
        | inr still ↦ still
      ]

  -- a table of the numbers, with that of one more text
  pub numbers-push : (texts : List (List ℕ)) (text : List ℕ) (old new : List ℕ → Option ℕ) → ((q : List ℕ) → old q ≡ position (same q) texts) → list_any (same text) texts ≡ false
      → ((q : List ℕ) → new q ≡ cond (same text q) (Some (length texts)) (old q)) → (q : List ℕ) → new q ≡ position (same q) (texts ++ text ∷ [])
  numbers-push texts text old new was absent is q =
      elim (cases_Bool (same text q)) [
        | inl so ↦ (
            let one : key text ≡ key q = (bytes_decides (key text) (key q)).0 so in
            let none : list_any (same q) texts ≡ false = subst (λ k. list_any (λ x. bytes_eq k (key x)) texts ≡ false) one absent in
            let this : same q text ≡ true = (bytes_decides (key q) (key text)).1 (sym one) in
            let found : cond (same text q) (Some (length texts)) (old q) ≡ Some (length texts) = rw so refl in
            let there : cond (same q text) (Some (length texts)) None ≡ Some (length texts) = rw this refl in
            is q ∙ found ∙ sym (position-push_none (same q) texts text none ∙ there))
        | inr not_so ↦ (
            let other = same_turned text q not_so in
            let found : cond (same text q) (Some (length texts)) (old q) ≡ old q = rw not_so refl in
            let there : position (same q) (texts ++ text ∷ []) ≡ position (same q) texts = elim (cases_Bool (list_any (same q) texts)) [
              | inl any ↦ position-push_any (same q) texts text any
              | inr none ↦ position-push_none (same q) texts text none ∙ rw other (sym (position-none (same q) texts none))
            ] in
            is q ∙ found ∙ was q ∙ sym there)
      ]

-- a list of pairs whose parts are the same, place by place, is the same list
pub same_pairs : {X Y : Type 0} (xs ys : List (X × Y)) → AllZip (λ p q. (q.0 ≡ p.0) × (q.1 ≡ p.1)) xs ys → ys ≡ xs
same_pairs [] [] alike = refl
same_pairs [] (y ∷ ys) alike = absurd alike
same_pairs (x ∷ xs) [] alike = absurd alike
same_pairs (x ∷ xs) (y ∷ ys) alike =
    let first : y ≡ x = ap (λ a. (a, y.1)) alike.0.0 ∙ ap (λ b. (x.0, b)) alike.0.1 in
    ap (λ a. a ∷ ys) first ∙ ap (λ l. x ∷ l) (same_pairs xs ys alike.1)

-- two lists whose texts have the same bytes, place by place
pub same_mapped : {X Y : Type 0} (f : X → Y) (xs ys : List X) → AllZip (λ x y. f y ≡ f x) xs ys → map f ys ≡ map f xs
same_mapped f [] [] alike = refl
same_mapped f [] (y ∷ ys) alike = absurd alike
same_mapped f (x ∷ xs) [] alike = absurd alike
same_mapped f (x ∷ xs) (y ∷ ys) alike = ap (λ b. b ∷ map f ys) alike.0 ∙ ap (λ bs. f x ∷ bs) (same_mapped f xs ys alike.1)
