-- The first of a list that has a name, and its number.
use Rattle.std.proofs.Common.{◌≡◌, ◌∙◌, ap, sym, refl, arith, ℕ, zero, suc, ◌+◌, ◌<◌, true, false, Bool, List, [], ◌∷◌, length, map, Option, Some, None, slice_get, inl, inr}
use Rattle.std.specs.Prelude.{not, nat_lt, position}
use Rattle.std.specs.List.{list_all, position_or_len, prefix_len}
use Rattle.std.specs.Str.{bytes_eq}
use Rattle.std.specs.Cmp.Lexicographic.{bytes_decides}
use Rattle.std.proofs.lemmas.List.{length-map}
use Rattle.std.proofs.lemmas.Option.{slice_get_within}
use Rattle.std.proofs.lemmas.Bool.{cases_Bool, and_parts, or_parts, or_left, or_right, both_ways, lt-ltb}
use Rattle.std.proofs.lemmas.Bool.Decides.{nat_tests}
use Rattle.plant_types.specs.Words.{folded}
use Rattle.base_words.specs.Names.{find_name}
use Rattle.st_blocks.specs.Chains.{Among}
use Rattle.st_typing.specs.First.{first_that}
use Rattle.st_typing.specs.Taken.{is_among, repeats}
use Rattle.st_typing.proofs.Entries.{turned}
use Rattle.logic_source.specs.Names.{find_word}

within_some : {P : Type 0} {X : Type 0} (xs : List X) (i : ℕ) → i < length xs → slice_get xs i ≡ None → P
within_some [] i within none = absurd (omega (arith, within))
within_some (x ∷ xs) zero within none = absurd (cc)
within_some (x ∷ xs) (suc i) within none = within_some xs i (omega (arith, within)) none

module _ {A : Type 0} (word : A → List ℕ) where
  slot_at : (items : List A) (x : List ℕ) → slice_get items (position_or_len (bytes_eq x) (map word items)) ≡ first_that (λ a. bytes_eq x (word a)) items
  slot_at [] x = refl
  slot_at (a ∷ rest) x =
      elim (cases_Bool (bytes_eq x (word a))) [
        | inl is ↦ rw is refl
        | inr not_is ↦ let later : 1 + position_or_len (bytes_eq x) (map word rest) ≡ suc (position_or_len (bytes_eq x) (map word rest)) = omega arith in rw (not_is, later) (slot_at rest x)
      ]

  -- where a name's first item stands; nowhere if there is none
  abbrev pub Finds : List A → List ℕ → Option A → Type 0
  Finds items name None = find_word (map word items) name ≡ None
  Finds items name (Some a) = (i : ℕ) × (find_word (map word items) name ≡ Some i) × (slice_get items i ≡ Some a)

  pub finds : (items : List A) (name : List ℕ) (o : Option A) → first_that (λ a. bytes_eq (word a) (folded name)) items ≡ o → Finds items name o
  finds items name o is = go o (slot_at items (folded name) ∙ ap (λ t. first_that t items) (λ i a. turned (folded name) (word a) i) ∙ is)
    where
      go : (o : Option A) → slice_get items (position_or_len (bytes_eq (folded name)) (map word items)) ≡ o → Finds items name o
      go (Some a) at =
          let n = position_or_len (bytes_eq (folded name)) (map word items) in
          let within : n < length (map word items) = omega (arith, slice_get_within items n a at, length-map items word) in
          (n, rw (lt-ltb n (length (map word items)) within) refl, at)
      go None at =
          let n = position_or_len (bytes_eq (folded name)) (map word items) in
          elim (cases_Bool (nat_lt n (length (map word items)))) [
            | inl is ↦ let long = length-map items word in let within : n < length items = grind (arith, nat_tests) in within_some items n within at
            | inr not_is ↦ rw not_is refl
          ]

-- each of a list that passes a test, and what is found in it
pub first_passes : {A : Type 0} (test : A → Bool) (all : A → Bool) (items : List A) (a : A) → list_all all items ≡ true → first_that test items ≡ Some a → all a ≡ true
first_passes test all [] a each found = absurd (cc)
first_passes test all (x ∷ rest) a each found =
    let parts = and_parts (all x) (list_all all rest) each in
    elim (cases_Bool (test x)) [
      | inl is ↦ let at : Some x ≡ Some a = rw is at found in let one : a ≡ x = cc in ap all one ∙ parts.0
      | inr not_is ↦ let next : first_that test rest ≡ Some a = rw not_is at found in first_passes test all rest a parts.1 next
    ]

pub first_is : {A : Type 0} (test : A → Bool) (items : List A) (a : A) → first_that test items ≡ Some a → test a ≡ true
first_is test [] a found = absurd (cc)
first_is test (x ∷ rest) a found =
    elim (cases_Bool (test x)) [
      | inl is ↦ let at : Some x ≡ Some a = rw is at found in let one : a ≡ x = cc in ap test one ∙ is
      | inr not_is ↦ let next : first_that test rest ≡ Some a = rw not_is at found in first_is test rest a next
    ]

-- where no two words of a list are one, each is the first of its word
module _ {A : Type 0} (word : A → List ℕ) where
  among_word : (xs : List A) (x : A) → Among xs x → is_among (map word xs) (word x) ≡ true
  among_word [] x here = elim here [ ]
  among_word (y ∷ ys) x (inl is) = or_left (bytes_eq (word x) (word y)) (is_among (map word ys) (word x)) ((bytes_decides (word x) (word y)).1 (ap word (sym is)))
  among_word (y ∷ ys) x (inr later) = or_right (bytes_eq (word x) (word y)) (is_among (map word ys) (word x)) (among_word ys x later)

  pub self_first : (xs : List A) (x : A) (w : List ℕ) → repeats (map word xs) ≡ false → Among xs x → word x ≡ w → first_that (λ y. bytes_eq (word y) w) xs ≡ Some x
  self_first [] x w once here same = elim here [ ]
  self_first (y ∷ ys) x w once (inl is) same =
      let found : bytes_eq (word y) w ≡ true = (bytes_decides (word y) w).1 (ap word is ∙ same) in
      rw found (ap Some is)
  self_first (y ∷ ys) x w once (inr later) same =
      let parts = or_parts (is_among (map word ys) (word y)) (repeats (map word ys)) once in
      elim (cases_Bool (bytes_eq (word y) w)) [
        | inl found ↦
            let one : word x ≡ word y = same ∙ sym ((bytes_decides (word y) w).0 found) in
            absurd (both_ways (is_among (map word ys) (word y)) parts.0 (ap (is_among (map word ys)) (sym one) ∙ among_word ys x later))
        | inr other ↦ rw other (self_first ys x w parts.1 later same)
      ]

-- a name is found among names where it is found among their words
prefix-map : {X Y : Type 0} (p : Y → Bool) (f : X → Y) (xs : List X) → prefix_len (λ x. p (f x)) xs ≡ prefix_len p (map f xs)
prefix-map p f [] = refl
prefix-map p f (x ∷ xs) = rw (prefix-map p f xs) refl

position-map : {X Y : Type 0} (p : Y → Bool) (f : X → Y) (xs : List X) → position (λ x. p (f x)) xs ≡ position p (map f xs)
position-map p f xs = rw (prefix-map (λ y. not (p y)) f xs, length-map xs f) refl

pub word_found : (names : List (List ℕ)) (name : List ℕ) → find_name names name ≡ find_word (map folded names) name
word_found names name = position-map (bytes_eq (folded name)) folded names
