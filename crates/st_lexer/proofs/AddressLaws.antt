-- Addresses: what is parsed is the longest one.
use Rattle.std.proofs.Common.{◌≡◌, ℕ, zero, suc, ◌+◌, ◌<◌, ◌≤◌, ◌==◌, Bool, true, false, ◌&&◌, ◌||◌, cond, List, [], ◌∷◌, ◌++◌, length, take, drop, Option, Some, None, refl, sym, ap, ◌∙◌, subst, arith, ◌⊎◌, inl, inr, codes, if◌then◌else◌}
use Rattle.std.specs.Char.{is_ascii_digit, to_ascii_lowercase}
use Rattle.std.specs.List.{list_any}
use Rattle.std.specs.Str.{bytes_eq}
use Rattle.std.proofs.lemmas.Bool.{and_parts, and_from, or_left, or_right, or_cases, cases_Bool, eqb-true, eq-eqb, false_from_ne_true, cond-true, cond-false}
use Rattle.std.proofs.lemmas.Bool.Decides.{nat_tests}
use Rattle.std.proofs.lemmas.Option.{same_Some, none-some, option_and_then_some}
use Rattle.std.proofs.lemmas.Slice.Eq.{bytes_eq-Decides}
use Rattle.plant_types.specs.declared.values.Region.{Region}
use Rattle.plant_types.specs.declared.values.Region.TheVariants as r
use Rattle.st_lexer.specs.Bytes.{begins_by, is_linked, is_grouped}
use Rattle.st_lexer.specs.Addresses.{same_letter, letter_of, is_size, is_place, is_address}
use Rattle.plant_types.specs.Options.{◌>>=◌}
use Rattle.st_lexer.specs.ReadingLiterals.{linked_len}
use Rattle.st_lexer.specs.Reading.{place_len, region_of, placed, parse_address}
use Rattle.st_lexer.proofs.WordLaws.{one_and}

abbrev digit : ℕ → Bool
digit = is_ascii_digit

-- ---- what is linked
pub begins_more : (test : ℕ → Bool) (bs rest : List ℕ) → begins_by test bs ≡ true → begins_by test (bs ++ rest) ≡ true
begins_more test [] rest h = absurd (let e : false ≡ true = h in cc)
begins_more test (b ∷ bs) rest h = h

pub begins_less : (test : ℕ → Bool) (n : ℕ) (bs : List ℕ) → 0 < n → begins_by test bs ≡ true → begins_by test (take n bs) ≡ true
begins_less test zero bs some h = absurd (omega arith)
begins_less test (suc n) [] some h = h
begins_less test (suc n) (b ∷ bs) some h = h

pub linked_reach : (test : ℕ → Bool) (mark : ℕ) (bs rest : List ℕ) → is_linked test mark bs ≡ true → length bs ≤ linked_len test mark (bs ++ rest)
linked_reach test mark [] rest h = omega arith
linked_reach test mark (b ∷ bs) rest h =
    let parts = and_parts (test b || (b == mark && begins_by test bs)) (is_linked test mark bs) h in
    let more = linked_reach test mark bs rest parts.1 in
    let on : (test b || (b == mark && begins_by test (bs ++ rest))) ≡ true = further parts.0 in
    rw on (omega arith)
  where
    further : (test b || (b == mark && begins_by test bs)) ≡ true → (test b || (b == mark && begins_by test (bs ++ rest))) ≡ true
    further e = elim (or_cases (test b) (b == mark && begins_by test bs) e) [
      | inl passes ↦ or_left (test b) _ passes
      | inr marks ↦ (let m = and_parts (b == mark) (begins_by test bs) marks in or_right (test b) _ (and_from _ _ m.0 (begins_more test bs rest m.1)))
    ]

pub linked_within : (test : ℕ → Bool) (mark : ℕ) (bs : List ℕ) → linked_len test mark bs ≤ length bs
linked_within test mark [] = omega arith
linked_within test mark (b ∷ bs) = elim (cases_Bool (test b || (b == mark && begins_by test bs))) as (λ _. linked_len test mark (b ∷ bs) ≤ length (b ∷ bs)) [
  | inl yes' ↦ (let more = linked_within test mark bs in rw yes' (omega arith))
  | inr no' ↦ rw no' (omega arith)
]

-- where a byte that passes is next, it is linked
pub linked_begins : (test : ℕ → Bool) (mark : ℕ) (bs : List ℕ) → begins_by test bs ≡ true → 0 < linked_len test mark bs
linked_begins test mark [] h = absurd (let e : false ≡ true = h in cc)
linked_begins test mark (b ∷ bs) h = rw h (omega arith)

pub linked_is : (test : ℕ → Bool) (mark : ℕ) (bs : List ℕ) → is_linked test mark (take (linked_len test mark bs) bs) ≡ true
linked_is test mark [] = refl
linked_is test mark (b ∷ bs) = elim (cases_Bool (test b || (b == mark && begins_by test bs))) as (λ _. is_linked test mark (take (linked_len test mark (b ∷ bs)) (b ∷ bs)) ≡ true) [
  | inl yes' ↦ rw yes' (rw (one_and (linked_len test mark bs)) (and_from _ _ (kept yes') (linked_is test mark bs)))
  | inr no' ↦ rw no' refl
]
  where
    kept : (test b || (b == mark && begins_by test bs)) ≡ true → (test b || (b == mark && begins_by test (take (linked_len test mark bs) bs))) ≡ true
    kept e = elim (or_cases (test b) (b == mark && begins_by test bs) e) [
      | inl passes ↦ or_left (test b) _ passes
      | inr marks ↦ (let m = and_parts (b == mark) (begins_by test bs) marks in or_right (test b) _ (and_from _ _ m.0 (begins_less test (linked_len test mark bs) bs (linked_begins test mark bs m.1) m.1)))
    ]

-- ---- places
star_no_digit : (b : ℕ) → (b == 42) ≡ true → digit b ≡ false
star_no_digit b h = grind (arith, nat_tests)

digit_no_star : (b : ℕ) → digit b ≡ true → (b == 42) ≡ false
digit_no_star b h = grind (arith, nat_tests)

-- a place begins with `*` or a digit
place_cases : (bs : List ℕ) → is_place bs ≡ true → (bs ≡ 42 ∷ []) ⊎ (is_grouped digit 46 bs ≡ true)
place_cases bs h = elim (or_cases (bytes_eq bs (42 ∷ [])) (is_grouped digit 46 bs) h) [
  | inl star ↦ inl ((bytes_eq-Decides bs (42 ∷ [])).0 star)
  | inr digits ↦ inr digits
]

nothing_placed : place_len [] ≡ 0
unfolding place_len
nothing_placed = refl

place_star : (b : ℕ) (bs : List ℕ) → (b == 42) ≡ true → place_len (b ∷ bs) ≡ 1
unfolding place_len
place_star b bs h = cond-true (b == 42) 1 _ h

place_digits : (b : ℕ) (bs : List ℕ) → digit b ≡ true → place_len (b ∷ bs) ≡ linked_len digit 46 (b ∷ bs)
unfolding place_len
place_digits b bs h = cond-false (b == 42) 1 _ (digit_no_star b h) ∙ cond-true (digit b) (linked_len digit 46 (b ∷ bs)) 0 h

place_none : (b : ℕ) (bs : List ℕ) → (b == 42) ≡ false → digit b ≡ false → place_len (b ∷ bs) ≡ 0
unfolding place_len
place_none b bs h d = cond-false (b == 42) 1 _ h ∙ cond-false (digit b) (linked_len digit 46 (b ∷ bs)) 0 d

-- what is next is `*`, a digit or no place
place_next : (b : ℕ) (bs : List ℕ) → ((b == 42) ≡ true) ⊎ ((digit b ≡ true) ⊎ (place_len (b ∷ bs) ≡ 0))
place_next b bs = elim (cases_Bool (b == 42)) [
  | inl star ↦ inl star
  | inr no_star ↦ elim (cases_Bool (digit b)) [ inl first ↦ inr (inl first) | inr none ↦ inr (inr (place_none b bs no_star none)) ]
]

pub place_reach : (bs rest : List ℕ) → is_place bs ≡ true → length bs ≤ place_len (bs ++ rest)
place_reach [] rest h = omega arith
place_reach (b ∷ bs) rest h = elim (place_cases (b ∷ bs) h) [
  | inl star ↦ (let size = ap length star in let first : b ≡ 42 = cc in let n = place_star b (bs ++ rest) (eq-eqb b 42 first) in omega arith)
  | inr digits ↦
      let parts = and_parts (digit b) (is_linked digit 46 (b ∷ bs)) digits in
      subst (λ n. length (b ∷ bs) ≤ n) (sym (place_digits b (bs ++ rest) parts.0)) (linked_reach digit 46 (b ∷ bs) rest parts.1)
]

pub place_within : (bs : List ℕ) → place_len bs ≤ length bs
place_within [] = let n = nothing_placed in omega arith
place_within (b ∷ bs) = elim (place_next b bs) [
  | inl star ↦ (let n = place_star b bs star in omega arith)
  | inr other ↦ elim other [
    | inl first ↦ subst (λ n. n ≤ length (b ∷ bs)) (sym (place_digits b bs first)) (linked_within digit 46 (b ∷ bs))
    | inr none ↦ (let n = none in omega arith)
  ]
]

pub place_is : (bs : List ℕ) → 0 < place_len bs → is_place (take (place_len bs) bs) ≡ true
place_is [] some = absurd (let n = nothing_placed in omega arith)
place_is (b ∷ bs) some = elim (place_next b bs) [
  | inl star ↦ subst (λ n. is_place (take n (b ∷ bs)) ≡ true) (sym (place_star b bs star)) (or_left (bytes_eq (b ∷ []) (42 ∷ [])) _ (and_from (b == 42) true star refl))
  | inr other ↦ elim other [
    | inl first ↦ subst (λ n. is_place (take n (b ∷ bs)) ≡ true) (sym (place_digits b bs first))
        (or_right (bytes_eq (take (linked_len digit 46 (b ∷ bs)) (b ∷ bs)) (42 ∷ [])) (is_grouped digit 46 (take (linked_len digit 46 (b ∷ bs)) (b ∷ bs)))
        (and_from (begins_by digit (take (linked_len digit 46 (b ∷ bs)) (b ∷ bs))) (is_linked digit 46 (take (linked_len digit 46 (b ∷ bs)) (b ∷ bs))) (begins_less digit (linked_len digit 46 (b ∷ bs)) (b ∷ bs) (linked_begins digit 46 (b ∷ bs) first) first) (linked_is digit 46 (b ∷ bs))))
    | inr none ↦ absurd (let n = none in omega arith)
  ]
]

-- ---- regions
pub region_found : (l : ℕ) (region : Region) → same_letter l (letter_of region) ≡ true → region_of l ≡ Some region
unfolding region_of
region_found l r.Input h = ap (λ x. cond (x == 105) (Some r.Input) (cond (x == 113) (Some r.Output) (cond (x == 109) (Some r.Plain) None))) (eqb-true (to_ascii_lowercase l) 105 h)
region_found l r.Output h = ap (λ x. cond (x == 105) (Some r.Input) (cond (x == 113) (Some r.Output) (cond (x == 109) (Some r.Plain) None))) (eqb-true (to_ascii_lowercase l) 113 h)
region_found l r.Plain h = ap (λ x. cond (x == 105) (Some r.Input) (cond (x == 113) (Some r.Output) (cond (x == 109) (Some r.Plain) None))) (eqb-true (to_ascii_lowercase l) 109 h)

pub region_is : (l : ℕ) (region : Region) → region_of l ≡ Some region → same_letter l (letter_of region) ≡ true
unfolding region_of
region_is l region h = elim (cases_Bool (same_letter l 73)) [
  | inl input ↦ (let e = same_Some r.Input region (sym (rw input refl) ∙ h) in subst (λ z. same_letter l (letter_of z) ≡ true) e input)
  | inr no_input ↦ elim (cases_Bool (same_letter l 81)) [
    | inl output ↦ (let e = same_Some r.Output region (sym (rw no_input (rw output refl)) ∙ h) in subst (λ z. same_letter l (letter_of z) ≡ true) e output)
    | inr no_output ↦ elim (cases_Bool (same_letter l 77)) [
      | inl plain ↦ (let e = same_Some r.Plain region (sym (rw no_input (rw no_output (rw plain refl))) ∙ h) in subst (λ z. same_letter l (letter_of z) ≡ true) e plain)
      | inr no_plain ↦ absurd (none-some region (sym (rw no_input (rw no_output (rw no_plain refl))) ∙ h))
    ]
  ]
]

-- ---- addresses
size_not_star : (l : ℕ) → l ≡ 42 → is_size l ≡ true → ⊥
unfolding is_size
size_not_star l e h = absurd (let f : false ≡ true = sym (ap (λ x. list_any (same_letter x) (codes "XBWDL")) e) ∙ h in cc)

size_letter : (l : ℕ) → is_size l ≡ true → 66 ≤ to_ascii_lowercase l
unfolding is_size
size_letter l h = grind (arith, nat_tests)

size_not_digit : (l : ℕ) → digit l ≡ true → is_size l ≡ true → ⊥
size_not_digit l d h = let s = size_letter l h in grind (arith, nat_tests)

size_no_place : (l : ℕ) (bs : List ℕ) → is_size l ≡ true → is_place (l ∷ bs) ≡ false
size_no_place l bs h = false_from_ne_true (is_place (l ∷ bs)) (λ place. elim (place_cases (l ∷ bs) place) [
  | inl star ↦ (let first : l ≡ 42 = cc in size_not_star l first h)
  | inr digits ↦ size_not_digit l (and_parts (digit l) (is_linked digit 46 (l ∷ bs)) digits).0 h
])

place_no_size : (bs : List ℕ) → is_place bs ≡ true → begins_by is_size bs ≡ false
place_no_size [] h = refl
place_no_size (l ∷ bs) h = false_from_ne_true (is_size l) (λ size. absurd (let e : false ≡ true = sym (size_no_place l bs size) ∙ h in cc))

-- an address: its region, and its place after the size
pub data Parted (region : Region) (l : ℕ) (bs : List ℕ) : Type 0 where
  unsized : same_letter l (letter_of region) ≡ true → begins_by is_size bs ≡ false → is_place bs ≡ true → Parted region l bs
  sized : same_letter l (letter_of region) ≡ true → begins_by is_size bs ≡ true → is_place (drop 1 bs) ≡ true → Parted region l bs

pub parted : (region : Region) (p l : ℕ) (bs : List ℕ) → is_address region (p ∷ l ∷ bs) ≡ true → Parted region l bs
parted region p l bs h =
    let whole = and_parts (p == 37 && same_letter l (letter_of region)) (is_place bs || (begins_by is_size bs && is_place (drop 1 bs))) h in
    let front = and_parts (p == 37) (same_letter l (letter_of region)) whole.0 in
    elim (or_cases (is_place bs) (begins_by is_size bs && is_place (drop 1 bs)) whole.1) [
      | inl place ↦ unsized front.1 (place_no_size bs place) place
      | inr both ↦ (let b = and_parts (begins_by is_size bs) (is_place (drop 1 bs)) both in sized front.1 b.0 b.1)
    ]

-- what is placed
placed_found : (region : Region) (k : ℕ) (bs : List ℕ) → 0 < place_len bs → placed region k bs ≡ Some (region, k + place_len bs)
unfolding placed
placed_found region k bs some = cond-false (place_len bs == 0) None (Some (region, k + place_len bs)) (false_from_ne_true (place_len bs == 0) (λ none. absurd (let z = eqb-true (place_len bs) 0 none in omega arith)))

placed_is : (region : Region) (k : ℕ) (bs : List ℕ) (a : Region × ℕ) → placed region k bs ≡ Some a → (0 < place_len bs) × ((region, k + place_len bs) ≡ a)
unfolding placed
placed_is region k bs a h = elim (cases_Bool (place_len bs == 0)) [
  | inl none ↦ absurd (none-some a (sym (cond-true (place_len bs == 0) None (Some (region, k + place_len bs)) none) ∙ h))
  | inr some ↦ (positive (place_len bs) some, same_Some (region, k + place_len bs) a (sym (cond-false (place_len bs == 0) None (Some (region, k + place_len bs)) some) ∙ h))
]
  where
    positive : (n : ℕ) → (n == 0) ≡ false → 0 < n
    positive zero e = absurd (let f : true ≡ false = e in cc)
    positive (suc n) e = omega arith

-- an address reaches no further than what is parsed
pub record Reaches (region : Region) (far : ℕ) (text : List ℕ) : Type 0 where
  pub n : ℕ
  pub read : parse_address text ≡ Some (region, n)
  pub reach : far ≤ n

place_some : (bs : List ℕ) → is_place bs ≡ true → 0 < length bs
place_some [] h = absurd (let e : false ≡ true = h in cc)
place_some (b ∷ bs) h = omega arith

abbrev after_letter : ℕ → List ℕ → Region → Option (Region × ℕ)
after_letter l bs region = if begins_by is_size bs then placed region 2 (drop 1 bs) else placed region 1 bs

address_reach_at : (region : Region) (l : ℕ) (bs rest : List ℕ) → Parted region l bs → Reaches region (suc (length bs)) (l ∷ (bs ++ rest))
address_reach_at region l bs rest (unsized letter size place) =
    let far = place_reach bs rest place in
    let some = place_some bs place in
    let no_size : begins_by is_size (bs ++ rest) ≡ false = same_beginning bs place size in
    record {
      n = 1 + place_len (bs ++ rest);
      read = ap (λ o. o >>= after_letter l (bs ++ rest)) (region_found l region letter) ∙ cond-false (begins_by is_size (bs ++ rest)) (placed region 2 (drop 1 (bs ++ rest))) (placed region 1 (bs ++ rest)) no_size ∙ placed_found region 1 (bs ++ rest) (omega arith);
      reach = omega arith;
    }
  where
    same_beginning : (cs : List ℕ) → is_place cs ≡ true → begins_by is_size cs ≡ false → begins_by is_size (cs ++ rest) ≡ false
    same_beginning [] p e = absurd (let f : false ≡ true = p in cc)
    same_beginning (c ∷ cs) p e = e
address_reach_at region l [] rest (sized letter size place) = absurd (let e : false ≡ true = size in cc)
address_reach_at region l (b ∷ bs) rest (sized letter size place) =
    let far = place_reach bs rest place in
    let some = place_some bs place in
    record {
      n = 2 + place_len (bs ++ rest);
      read = ap (λ o. o >>= after_letter l (b ∷ (bs ++ rest))) (region_found l region letter) ∙ cond-true (is_size b) (placed region 2 (bs ++ rest)) (placed region 1 (b ∷ (bs ++ rest))) size ∙ placed_found region 2 (bs ++ rest) (omega arith);
      reach = omega arith;
    }

pub address_reach : (region : Region) (p : ℕ) (bs rest : List ℕ) → is_address region (p ∷ bs) ≡ true → Reaches region (length bs) (bs ++ rest)
address_reach region p [] rest h = absurd (let e : false ≡ true = h in cc)
address_reach region p (l ∷ bs) rest h = address_reach_at region l bs rest (parted region p l bs h)

-- what is parsed is an address
pub record Addresses (region : Region) (n : ℕ) (text : List ℕ) : Type 0 where
  pub within : n ≤ length text
  pub is : is_address region (37 ∷ take n text) ≡ true

sized_is : (region : Region) (l b n : ℕ) (bs : List ℕ) → same_letter l (letter_of region) ≡ true → is_size b ≡ true → 0 < place_len bs → n ≡ suc (suc (place_len bs)) → Addresses region n (l ∷ b ∷ bs)
sized_is region l b n bs letter size some e = subst (λ i. Addresses region i (l ∷ b ∷ bs)) (sym e) record {
  within = (let w = place_within bs in omega arith);
  is = and_from (same_letter l (letter_of region)) _ letter (or_right (is_place (b ∷ take (place_len bs) bs)) (is_size b && is_place (take (place_len bs) bs)) (and_from (is_size b) _ size (place_is bs some)));
}

unsized_is : (region : Region) (l n : ℕ) (bs : List ℕ) → same_letter l (letter_of region) ≡ true → 0 < place_len bs → n ≡ suc (place_len bs) → Addresses region n (l ∷ bs)
unsized_is region l n bs letter some e = subst (λ i. Addresses region i (l ∷ bs)) (sym e) record {
  within = (let w = place_within bs in omega arith);
  is = and_from (same_letter l (letter_of region)) _ letter (or_left (is_place (take (place_len bs) bs)) _ (place_is bs some));
}

first_same : (x y : Region) (i j : ℕ) → (let a : Region × ℕ = (x, i) in a) ≡ (y, j) → x ≡ y
first_same x y i j e = ap (λ (a : Region × ℕ). a.0) e

second_same : (x y : Region) (i j : ℕ) → (let a : Region × ℕ = (x, i) in a) ≡ (y, j) → i ≡ j
second_same x y i j e = ap (λ (a : Region × ℕ). a.1) e

after_letter_is : (l : ℕ) (bs : List ℕ) (found region : Region) (n : ℕ) → same_letter l (letter_of found) ≡ true → after_letter l bs found ≡ Some (region, n) → Addresses region n (l ∷ bs)
after_letter_is l [] found region n letter h =
    let p = placed_is found 1 [] (region, n) h in
    let none = place_within [] in
    absurd (let some = p.0 in omega arith)
after_letter_is l (b ∷ bs) found region n letter h = elim (cases_Bool (is_size b)) [
  | inl size ↦
      let p = placed_is found 2 bs (region, n) (sym (cond-true (is_size b) (placed found 2 bs) (placed found 1 (b ∷ bs)) size) ∙ h) in
      let count = second_same found region (2 + place_len bs) n p.1 in
      sized_is region l b n bs (subst (λ z. same_letter l (letter_of z) ≡ true) (first_same found region (2 + place_len bs) n p.1) letter) size p.0 (omega arith)
  | inr no_size ↦
      let p = placed_is found 1 (b ∷ bs) (region, n) (sym (cond-false (is_size b) (placed found 2 bs) (placed found 1 (b ∷ bs)) no_size) ∙ h) in
      let count = second_same found region (1 + place_len (b ∷ bs)) n p.1 in
      unsized_is region l n (b ∷ bs) (subst (λ z. same_letter l (letter_of z) ≡ true) (first_same found region (1 + place_len (b ∷ bs)) n p.1) letter) p.0 (omega arith)
]

pub address_is : (region : Region) (n : ℕ) (text : List ℕ) → parse_address text ≡ Some (region, n) → Addresses region n text
address_is region n [] h = absurd (none-some (region, n) h)
address_is region n (l ∷ bs) h = option_and_then_some (after_letter l bs) (region_of l) (region, n) h (λ found e rest. after_letter_is l bs found region n (region_is l found e) rest)
