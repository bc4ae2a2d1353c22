-- Names found in a list, each computed by hand from the rule: the names are "Pump", "b_1" and "A", in bytes.
use Rattle.std.proofs.Common.{◌≡◌, ℕ, List, true, false, Some, None, [], ◌∷◌, refl}
use Rattle.base_words.specs.Names.{find_name, is_among}

abbrev names : List (List ℕ)
names = (80 ∷ 117 ∷ 109 ∷ 112 ∷ []) ∷ (98 ∷ 95 ∷ 49 ∷ []) ∷ (65 ∷ []) ∷ []

-- "pUMP", "B_1" and "a"
found_first : find_name names (112 ∷ 85 ∷ 77 ∷ 80 ∷ []) ≡ Some 0
found_first = refl

found_second : find_name names (66 ∷ 95 ∷ 49 ∷ []) ≡ Some 1
found_second = refl

found_last : find_name names (97 ∷ []) ≡ Some 2
found_last = refl

-- "pum" is no name of the list: a part of one is another word
part_absent : find_name names (112 ∷ 117 ∷ 109 ∷ []) ≡ None
part_absent = refl

-- nor is "B?1": a sign that is no letter has no other case, and `?` is 32 before `_`
sign_absent : is_among names (66 ∷ 63 ∷ 49 ∷ []) ≡ false
sign_absent = refl

a_among : is_among names (97 ∷ []) ≡ true
a_among = refl
