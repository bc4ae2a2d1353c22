-- Names that are gone through in order of text, with the words before each: the first that is taken is the first of all.
use Rattle.std.proofs.Common.{◌≡◌, ◌∙◌, ap, sym, refl, ℕ, zero, suc, ◌+◌, Bool, true, false, List, [], ◌∷◌, ◌++◌, append-nil, append_assoc, map, take, drop, length, get_or, Option, Some, None, inl, inr, arith}
use Rattle.std.specs.Prelude.{if◌then◌else◌, slice_get, option_map, option_and_then}
use Rattle.std.specs.List.{range_with_len}
use Rattle.std.proofs.lemmas.Bool.{cases_Bool}
use Rattle.plant_types.specs.Words.{folded}
use Rattle.st_parser.specs.Units.{PlainPou, PlainUnit}
use Rattle.st_names.specs.declared.place.UnitPlace.{UnitPlace}
use Rattle.st_names.specs.First.{first_that}
use Rattle.st_names.specs.Taken.{is_taken, or_place, global_words, pou_words, Naming, naming, pou_namings, namings, is_taken_at, place_at, first_place, first_taken}
use Rattle.st_names.specs.Scanned.{one_taken, first_taken_pou, first_taken_after}

-- the unit of the first name that is taken, where words are before all
abbrev scan : List (List ℕ) → List Naming → Option UnitPlace
scan earlier [] = None
scan earlier (n ∷ ns) = if is_taken earlier n.word then Some n.place else scan (earlier ++ n.word ∷ []) ns

-- names of one unit, and then others
of_globals : (place : UnitPlace) (earlier words : List (List ℕ)) (rest : List Naming) → scan earlier (map (naming place) words ++ rest) ≡ (if one_taken earlier words then Some place else scan (earlier ++ words) rest)
of_globals place earlier [] rest = ap (λ e. scan e rest) (sym (append-nil earlier))
of_globals place earlier (w ∷ ws) rest =
    elim (cases_Bool (is_taken earlier w)) [
      | inl is ↦ rw is refl
      | inr isnt ↦ rw isnt (of_globals place (earlier ++ w ∷ []) ws rest ∙ ap (λ e. if one_taken (earlier ++ w ∷ []) ws then Some place else scan e rest) (append_assoc earlier (w ∷ []) ws))
    ]

-- names of blocks and programs, and then others
of_pous : (source n : ℕ) (earlier : List (List ℕ)) (ps : List PlainPou) (rest : List Naming)
    → scan earlier (pou_namings source n ps ++ rest) ≡ or_place (first_taken_pou source n earlier ps) (scan (earlier ++ map (λ (p : PlainPou). folded p.name) ps) rest)
of_pous source n earlier [] rest = ap (λ e. scan e rest) (sym (append-nil earlier))
of_pous source n earlier (p ∷ ps) rest =
    let words = map (λ (q : PlainPou). folded q.name) ps in
    elim (cases_Bool (is_taken earlier (folded p.name))) [
      | inl is ↦ rw is refl
      | inr isnt ↦ rw isnt (of_pous source (suc n) (earlier ++ folded p.name ∷ []) ps rest ∙ ap (λ e. or_place (first_taken_pou source (suc n) (earlier ++ folded p.name ∷ []) ps) (scan e rest)) (append_assoc earlier (folded p.name ∷ []) words))
    ]

-- names of all sources
scanned : (source : ℕ) (earlier : List (List ℕ)) (units : List PlainUnit) → scan earlier (namings source units) ≡ first_taken_after source earlier units
scanned source earlier [] = refl
scanned source earlier (unit ∷ units) =
    let place : UnitPlace = record { source = source; pou = None } in
    let words = global_words unit in
    let rest = namings (suc source) units in
    let later = scanned (suc source) (earlier ++ words ++ pou_words unit) units in
    of_globals place earlier words (pou_namings source 0 unit.pous ++ rest)
    ∙ ap (λ o. if one_taken earlier words then Some place else o) (of_pous source 0 (earlier ++ words) unit.pous rest ∙ ap (or_place (first_taken_pou source 0 (earlier ++ words) unit.pous)) later)
    ∙ chosen (one_taken earlier words) place (first_taken_pou source 0 (earlier ++ words) unit.pous) (first_taken_after (suc source) (earlier ++ words ++ pou_words unit) units)
  where
    chosen : (b : Bool) (place : UnitPlace) (o other : Option UnitPlace) → (if b then Some place else or_place o other) ≡ or_place (if b then Some place else o) other
    chosen true place o other = refl
    chosen false place o other = refl

-- the next of a list from a number on
next_at : (xs : List Naming) (k : ℕ) (x : Naming) (rest : List Naming) → drop k xs ≡ x ∷ rest → slice_get xs k ≡ Some x
next_at [] zero x rest is = absurd (cc)
next_at [] (suc k) x rest is = absurd (cc)
next_at (y ∷ ys) zero x rest is = let same : y ≡ x = cc in ap Some same
next_at (y ∷ ys) (suc k) x rest is = next_at ys k x rest is

rest_at : (xs : List Naming) (k : ℕ) (x : Naming) (rest : List Naming) → drop k xs ≡ x ∷ rest → drop (suc k) xs ≡ rest
rest_at [] zero x rest is = absurd (cc)
rest_at [] (suc k) x rest is = absurd (cc)
rest_at (y ∷ ys) zero x rest is = let same : ys ≡ rest = cc in drop_none ys ∙ same
  where
    drop_none : (xs : List Naming) → drop 0 xs ≡ xs
    drop_none [] = refl
    drop_none (x ∷ xs) = refl
rest_at (y ∷ ys) (suc k) x rest is = rest_at ys k x rest is

abbrev word : Naming → List ℕ
word n = n.word

word_at : (xs : List Naming) (k : ℕ) (x : Naming) (rest : List Naming) → drop k xs ≡ x ∷ rest → get_or (map word xs) k [] ≡ x.word
word_at [] zero x rest is = absurd (cc)
word_at [] (suc k) x rest is = absurd (cc)
word_at (y ∷ ys) zero x rest is = let same : y ≡ x = cc in ap word same
word_at (y ∷ ys) (suc k) x rest is = word_at ys k x rest is

words_to : (xs : List Naming) (k : ℕ) (x : Naming) (rest : List Naming) → drop k xs ≡ x ∷ rest → take (suc k) (map word xs) ≡ take k (map word xs) ++ x.word ∷ []
words_to [] zero x rest is = absurd (cc)
words_to [] (suc k) x rest is = absurd (cc)
words_to (y ∷ ys) zero x rest is = let same : y ≡ x = cc in (λ i. word (same i) ∷ take_none (map word ys) i)
  where
    take_none : (xs : List (List ℕ)) → take 0 xs ≡ []
    take_none [] = refl
    take_none (x ∷ xs) = refl
words_to (y ∷ ys) (suc k) x rest is = ap (λ l. word y ∷ l) (words_to ys k x rest is)

module _ (names : List Naming) where
  abbrev words : List (List ℕ)
  words = map word names

  from_number : (k : ℕ) (rest : List Naming) → drop k names ≡ rest → scan (take k words) rest ≡ option_and_then (place_at names) (first_that (is_taken_at words) (range_with_len k (length rest)))
  from_number k [] is = refl
  from_number k (x ∷ rest) is =
      let own = word_at names k x rest is in
      let more : k + 1 ≡ suc k = omega arith in
      elim (cases_Bool (is_taken (take k words) x.word)) [
        | inl there ↦ (
            let here : is_taken_at words k ≡ true = ap (is_taken (take k words)) own ∙ there in
            rw (there, here) (sym (ap (option_map (λ (n : Naming). n.place)) (next_at names k x rest is))))
        | inr free ↦ (
            let here : is_taken_at words k ≡ false = ap (is_taken (take k words)) own ∙ free in
            rw (free, here)
            (ap (λ e. scan e rest) (sym (words_to names k x rest is)) ∙ from_number (suc k) rest (rest_at names k x rest is)
            ∙ ap (λ j. option_and_then (place_at names) (first_that (is_taken_at words) (range_with_len j (length rest)))) (sym more)))
      ]

  pub from_first : scan [] names ≡ first_place names
  from_first = ap (λ e. scan e names) (sym (none words)) ∙ from_number 0 names (all names)
    where
      none : (xs : List (List ℕ)) → take 0 xs ≡ []
      none [] = refl
      none (x ∷ xs) = refl

      all : (xs : List Naming) → drop 0 xs ≡ xs
      all [] = refl
      all (x ∷ xs) = refl

-- going through all names finds the first that is taken
pub first_after : (units : List PlainUnit) → first_taken_after 0 [] units ≡ first_taken units
first_after units = sym (scanned 0 [] units) ∙ from_first (namings 0 units)
