-- Durations: what is parsed is the exact sum of the parts.
use Rattle.std.proofs.Common.{◌≡◌, ℕ, zero, suc, ◌+◌, ◌-◌, ◌*◌, ◌/◌, ◌%◌, ◌^◌, ◌<◌, ◌≤◌, ◌==◌, nat_le, nat_lt, ℤ, Bool, true, false, ◌&&◌, ◌||◌, cond, List, [], ◌∷◌, ◌++◌, length, take, drop, Option, Some, None, refl, sym, ap, ◌∙◌, subst, arith, ◌⊎◌, inl, inr, FitsSigned, w64, le_of_mul-le-mul_right}
use Rattle.std.specs.List.{list_all, prefix_len}
use Rattle.std.proofs.lemmas.Bool.{and_parts, and_from, and_left, or_parts, or_left, or_right, or_cases, or_from, cases_Bool, eqb-true, eq-eqb, leb-true, ltb-true, le-leb, lt-ltb, false_from_ne_true, ne_eqb, cond-true, cond-false}
use Rattle.std.proofs.lemmas.List.{take-append-drop, take_at, drop_at, append-nil, nil_from_length}
use Rattle.std.proofs.lemmas.Nat.{mod-mul-add, div-mul-add, div-add-mod', mul-le}
use Rattle.std.proofs.lemmas.Option.{cond_some, same_Some, none-some, option_and_then_some, some_pair_parts}
use Rattle.plant_types.specs.Words.{same_word}
use Rattle.st_lexer.specs.declared.durations.TimeUnit.{TimeUnit}
use Rattle.st_lexer.specs.declared.durations.TimeUnit.TheVariants as u
use Rattle.st_lexer.specs.declared.durations.Number.{Number}
use Rattle.st_lexer.specs.Bytes.{begins_by, is_linked}
use Rattle.st_lexer.specs.Numbers.{is_number, number_value}
use Rattle.st_lexer.specs.Literals.{signed}
use Rattle.st_lexer.specs.Durations.{unit_spelling, milliseconds_in, units, decimal_places, without, last, pointed, followed, Lasts, IsTimed, forward, backward}
use Rattle.plant_types.specs.Options.{◌>>=◌}
use Rattle.st_lexer.specs.ReadingLiterals.{parse_number, linked_len, signed_within, digits_len, parse_decimals, letters_len, whole_number, pointed_number, parse_fraction, leading_number, parse_part, part_added, after_underscore, parts_after, parse_parts, parse_time}
use Rattle.st_lexer.proofs.Classes.{no_truth}
use Rattle.st_lexer.proofs.NumberLaws.{number_sound, number_complete}
use Rattle.st_lexer.proofs.AddressLaws.{begins_more, begins_less, linked_begins, linked_is}
use Rattle.st_lexer.proofs.LiteralLaws.{dot}
use Rattle.st_lexer.proofs.DecimalLaws.{power_some, decimals_sound, decimals_complete}
use Rattle.st_lexer.proofs.DurationLaws.{digit, letter, unit_letters, unit_begins, begins_not, letter_no_dot, letter_no_mark, digit_no_letter, digit_no_minus, digit_no_mark, one_unit, number_begins, number_linked, number_some, lasts_digit}

abbrev stop : ℕ → Bool
stop b = digit b || b == 95

-- ---- how many digits and letters are at the front
linked_on : (b : ℕ) (xs ys : List ℕ) → (digit b || (b == 95 && begins_by digit xs)) ≡ true → (digit b || (b == 95 && begins_by digit (xs ++ ys))) ≡ true
linked_on b xs ys h = elim (or_cases (digit b) (b == 95 && begins_by digit xs) h) [
  | inl d ↦ or_left (digit b) _ d
  | inr m ↦ (let parts = and_parts (b == 95) (begins_by digit xs) m in or_right (digit b) _ (and_from (b == 95) _ parts.0 (begins_more digit xs ys parts.1)))
]

linked_stop : (ys : List ℕ) → begins_by stop ys ≡ false → linked_len digit 95 ys ≡ 0
linked_stop [] h = refl
linked_stop (b ∷ bs) h =
    let parts = or_parts (digit b) (b == 95) h in
    cond-false (digit b || (b == 95 && begins_by digit bs)) (1 + linked_len digit 95 bs) 0 (or_from (digit b) (b == 95 && begins_by digit bs) parts.0 (and_left (b == 95) (begins_by digit bs) parts.1))

linked_over : (xs ys : List ℕ) → is_linked digit 95 xs ≡ true → begins_by stop ys ≡ false → linked_len digit 95 (xs ++ ys) ≡ length xs
linked_over [] ys h s = linked_stop ys s
linked_over (x ∷ xs) ys h s =
    let parts = and_parts (digit x || (x == 95 && begins_by digit xs)) (is_linked digit 95 xs) h in
    let on = cond-true (digit x || (x == 95 && begins_by digit (xs ++ ys))) (1 + linked_len digit 95 (xs ++ ys)) 0 (linked_on x xs ys parts.0) in
    let more = linked_over xs ys parts.1 s in
    omega arith

digits_over : (xs ys : List ℕ) → is_number 10 xs ≡ true → begins_by stop ys ≡ false → digits_len (xs ++ ys) ≡ length xs
unfolding digits_len
digits_over xs ys h s = cond-true (begins_by digit (xs ++ ys)) (linked_len digit 95 (xs ++ ys)) 0 (begins_more digit xs ys (number_begins xs h)) ∙ linked_over xs ys (number_linked xs h) s

digits_is : (bs : List ℕ) → (digits_len bs == 0) ≡ false → is_number 10 (take (digits_len bs) bs) ≡ true
unfolding digits_len
digits_is bs h = elim (cases_Bool (begins_by digit bs)) [
  | inl yes' ↦
      let some = linked_begins digit 95 bs yes' in
      subst (λ n. is_number 10 (take n bs) ≡ true) (sym (cond-true (begins_by digit bs) (linked_len digit 95 bs) 0 yes'))
      (and_from (begins_by digit (take (linked_len digit 95 bs) bs)) (is_linked digit 95 (take (linked_len digit 95 bs) bs)) (begins_less digit (linked_len digit 95 bs) bs some yes') (linked_is digit 95 bs))
  | inr no' ↦ no_truth (sym h ∙ eq-eqb (cond (begins_by digit bs) (linked_len digit 95 bs) 0) 0 (cond-false (begins_by digit bs) (linked_len digit 95 bs) 0 no'))
]

letters_over : (xs ys : List ℕ) → list_all letter xs ≡ true → begins_by letter ys ≡ false → letters_len (xs ++ ys) ≡ length xs
unfolding letters_len
letters_over [] [] h s = refl
letters_over [] (y ∷ ys) h s = cond-false (letter y) (1 + prefix_len letter ys) 0 s
letters_over (x ∷ xs) ys h s =
    let parts = and_parts (letter x) (list_all letter xs) h in
    let on = cond-true (letter x) (1 + prefix_len letter (xs ++ ys)) 0 parts.0 in
    let more = letters_over xs ys parts.1 s in
    omega arith

-- ---- the number at the front
pub data Led (bs : List ℕ) (num : Number) (ys : List ℕ) : Type 0 where
  led_whole : (whole : List ℕ) → bs ≡ whole ++ ys → is_number 10 whole ≡ true → num ≡ whole_number (number_value 10 whole) → Led bs num ys
  led_pointed : (whole fraction : List ℕ) (d : ℕ) → bs ≡ whole ++ 46 ∷ (fraction ++ ys) → is_number 10 whole ≡ true → is_number 10 fraction ≡ true → parse_decimals fraction ≡ Some d → num ≡ pointed_number (number_value 10 whole) d → Led bs num ys

abbrev Front : Type 0
Front = Number × List ℕ

abbrev decimals_at : ℕ → List ℕ → ℕ → Option Front
decimals_at n bs k = parse_decimals (take k bs) >>= λ d. Some (pointed_number n d, drop k bs)

abbrev after_point : ℕ → ℕ → List ℕ → Option Front
after_point n b bs = cond (digits_len bs == 0) (Some (whole_number n, b ∷ bs)) (decimals_at n bs (digits_len bs))

fraction_point : (n b : ℕ) (bs : List ℕ) → dot b ≡ true → parse_fraction n (b ∷ bs) ≡ after_point n b bs
unfolding parse_fraction
fraction_point n b bs h = cond-true (dot b) (after_point n b bs) (Some (whole_number n, b ∷ bs)) h

fraction_else : (n : ℕ) (bs : List ℕ) → begins_by dot bs ≡ false → parse_fraction n bs ≡ Some (whole_number n, bs)
unfolding parse_fraction
fraction_else n [] h = refl
fraction_else n (b ∷ bs) h = cond-false (dot b) (after_point n b bs) (Some (whole_number n, b ∷ bs)) h

same_front : (a x : Number) (b y : List ℕ) → (let s : Option Front = Some (a, b) in s) ≡ Some (x, y) → (x ≡ a) × (b ≡ y)
same_front a x b y e = let parts = some_pair_parts a x b y e in (sym parts.0, parts.1)

led_plain : (whole bs ys : List ℕ) (num : Number) → is_number 10 whole ≡ true → (let s : Option Front = Some (whole_number (number_value 10 whole), bs) in s) ≡ Some (num, ys) → Led (whole ++ bs) num ys
led_plain whole bs ys num h e = let same = same_front (whole_number (number_value 10 whole)) num bs ys e in led_whole whole (ap (λ x. whole ++ x) same.1) h same.0

led_fraction : (whole bs ys : List ℕ) (num : Number) → is_number 10 whole ≡ true → parse_fraction (number_value 10 whole) bs ≡ Some (num, ys) → Led (whole ++ bs) num ys
led_fraction whole [] ys num h e = led_plain whole [] ys num h (sym (fraction_else (number_value 10 whole) [] refl) ∙ e)
led_fraction whole (b ∷ bs) ys num h e = elim (cases_Bool (dot b)) [
  | inl point ↦ elim (cases_Bool (digits_len bs == 0)) [
    | inl none ↦ led_plain whole (b ∷ bs) ys num h (sym (fraction_point (number_value 10 whole) b bs point ∙ cond-true (digits_len bs == 0) (Some (whole_number (number_value 10 whole), b ∷ bs)) (decimals_at (number_value 10 whole) bs (digits_len bs)) none) ∙ e)
    | inr some ↦
        let found : decimals_at (number_value 10 whole) bs (digits_len bs) ≡ Some (num, ys) = sym (fraction_point (number_value 10 whole) b bs point ∙ cond-false (digits_len bs == 0) (Some (whole_number (number_value 10 whole), b ∷ bs)) (decimals_at (number_value 10 whole) bs (digits_len bs)) some) ∙ e in
        option_and_then_some (λ d. Some (pointed_number (number_value 10 whole) d, drop (digits_len bs) bs)) (parse_decimals (take (digits_len bs) bs)) (num, ys) found (λ d is rest.
        let same = same_front (pointed_number (number_value 10 whole) d) num (drop (digits_len bs) bs) ys rest in
        let cut : b ∷ bs ≡ 46 ∷ (take (digits_len bs) bs ++ ys) = ap (λ c. c ∷ bs) (eqb-true b 46 point) ∙ ap (λ x. 46 ∷ x) (sym (take-append-drop (digits_len bs) bs)) ∙ ap (λ x. 46 ∷ (take (digits_len bs) bs ++ x)) same.1 in
        led_pointed whole (take (digits_len bs) bs) d (ap (λ x. whole ++ x) cut) h (digits_is bs some) is same.0)
  ]
  | inr none ↦ led_plain whole (b ∷ bs) ys num h (sym (fraction_else (number_value 10 whole) (b ∷ bs) none) ∙ e)
]

abbrev lead_at : ℕ → List ℕ → Option Front
lead_at k bs = parse_number 10 (take k bs) >>= λ n. parse_fraction n (drop k bs)

leading_is : (bs : List ℕ) → leading_number bs ≡ lead_at (digits_len bs) bs
unfolding leading_number
leading_is bs = refl

leading_sound : (bs ys : List ℕ) (num : Number) → leading_number bs ≡ Some (num, ys) → Led bs num ys
leading_sound bs ys num h = option_and_then_some (λ n. parse_fraction n (drop (digits_len bs) bs)) (parse_number 10 (take (digits_len bs) bs)) (num, ys) (sym (leading_is bs) ∙ h) (λ n is rest.
    let whole = number_sound 10 (take (digits_len bs) bs) n (omega arith) is in
    subst (λ x. Led x num ys) (take-append-drop (digits_len bs) bs) (led_fraction (take (digits_len bs) bs) (drop (digits_len bs) bs) ys num whole.0 (ap (λ k. parse_fraction k (drop (digits_len bs) bs)) (sym whole.1) ∙ rest)))

-- a number at the front is found
lead_found : (whole ys : List ℕ) (r : Option Front) → is_number 10 whole ≡ true → number_value 10 whole < 2 ^ 64 → begins_by stop ys ≡ false → parse_fraction (number_value 10 whole) ys ≡ r → leading_number (whole ++ ys) ≡ r
lead_found whole ys r h fits s e =
    leading_is (whole ++ ys)
    ∙ ap (λ k. lead_at k (whole ++ ys)) (digits_over whole ys h s)
    ∙ ap (λ x. parse_number 10 x >>= λ n. parse_fraction n (drop (length whole) (whole ++ ys))) (take_at whole ys (length whole) refl)
    ∙ ap (λ y. parse_number 10 whole >>= λ n. parse_fraction n y) (drop_at whole ys (length whole) refl)
    ∙ ap (λ o. o >>= λ n. parse_fraction n ys) (number_complete 10 whole (omega arith) (omega arith) h fits)
    ∙ e

leading_whole : (whole ys : List ℕ) → is_number 10 whole ≡ true → number_value 10 whole < 2 ^ 64 → begins_by letter ys ≡ true → leading_number (whole ++ ys) ≡ Some (whole_number (number_value 10 whole), ys)
leading_whole whole ys h fits s = lead_found whole ys (Some (whole_number (number_value 10 whole), ys)) h fits (begins_not letter stop ys letter_no_mark s) (fraction_else (number_value 10 whole) ys (begins_not letter dot ys letter_no_dot s))

not_empty : (n : ℕ) → 0 < n → (n == 0) ≡ false
not_empty zero h = absurd (omega arith)
not_empty (suc n) h = ne_eqb (suc n) 0 (λ e. omega arith)

fraction_found : (n d : ℕ) (fraction ys : List ℕ) → is_number 10 fraction ≡ true → begins_by letter ys ≡ true → parse_decimals fraction ≡ Some d → parse_fraction n (46 ∷ (fraction ++ ys)) ≡ Some (pointed_number n d, ys)
fraction_found n d fraction ys h s e =
    let size = digits_over fraction ys h (begins_not letter stop ys letter_no_mark s) in
    let some : (digits_len (fraction ++ ys) == 0) ≡ false = ap (λ k. k == 0) size ∙ not_empty (length fraction) (number_some 10 fraction h) in
    fraction_point n 46 (fraction ++ ys) refl
    ∙ cond-false (digits_len (fraction ++ ys) == 0) (Some (whole_number n, 46 ∷ (fraction ++ ys))) (decimals_at n (fraction ++ ys) (digits_len (fraction ++ ys))) some
    ∙ ap (λ k. decimals_at n (fraction ++ ys) k) size
    ∙ ap (λ x. parse_decimals x >>= λ p. Some (pointed_number n p, drop (length fraction) (fraction ++ ys))) (take_at fraction ys (length fraction) refl)
    ∙ ap (λ y. parse_decimals fraction >>= λ p. Some (pointed_number n p, y)) (drop_at fraction ys (length fraction) refl)
    ∙ ap (λ o. o >>= λ p. Some (pointed_number n p, ys)) e

leading_pointed : (whole fraction ys : List ℕ) (d : ℕ) → is_number 10 whole ≡ true → number_value 10 whole < 2 ^ 64 → is_number 10 fraction ≡ true → begins_by letter ys ≡ true → parse_decimals fraction ≡ Some d → leading_number (whole ++ 46 ∷ (fraction ++ ys)) ≡ Some (pointed_number (number_value 10 whole) d, ys)
leading_pointed whole fraction ys d h fits frac s e = lead_found whole (46 ∷ (fraction ++ ys)) (Some (pointed_number (number_value 10 whole) d, ys)) h fits refl (fraction_found (number_value 10 whole) d fraction ys frac s e)

-- ---- the number, its letters and the rest
abbrev Part : Type 0
Part = Number × List ℕ × List ℕ

abbrev part_of : Front → Option Part
part_of r = Some (r.0, take (letters_len r.1) r.1, drop (letters_len r.1) r.1)

part_is : (bs : List ℕ) → parse_part bs ≡ (leading_number bs >>= part_of)
unfolding parse_part
part_is bs = refl

part_sound : (bs name rest : List ℕ) (num : Number) → parse_part bs ≡ Some (num, name, rest) → Led bs num (name ++ rest)
part_sound bs name rest num h = option_and_then_some part_of (leading_number bs) (num, name, rest) (sym (part_is bs) ∙ h) (λ r is e.
    let same : (let p : Part = (r.0, take (letters_len r.1) r.1, drop (letters_len r.1) r.1) in p) ≡ (num, name, rest) = same_Some _ _ e in
    let first : r.0 ≡ num = ap (λ (p : Part). p.0) same in
    let front : take (letters_len r.1) r.1 ≡ name = ap (λ (p : Part). p.1) same in
    let tail : drop (letters_len r.1) r.1 ≡ rest = ap (λ (p : Part). p.2) same in
    let whole : r.1 ≡ name ++ rest = sym (take-append-drop (letters_len r.1) r.1) ∙ ap (λ x. x ++ drop (letters_len r.1) r.1) front ∙ ap (λ x. name ++ x) tail in
    subst (λ y. Led bs num y) whole (subst (λ z. Led bs z r.1) first (leading_sound bs r.1 r.0 is)))

part_found : (bs name rest : List ℕ) (num : Number) → leading_number bs ≡ Some (num, name ++ rest) → list_all letter name ≡ true → begins_by letter rest ≡ false → parse_part bs ≡ Some (num, name, rest)
part_found bs name rest num h letters s =
    let size = letters_over name rest letters s in
    part_is bs
    ∙ ap (λ o. o >>= part_of) h
    ∙ ap (λ k. Some (num, take k (name ++ rest), drop k (name ++ rest))) size
    ∙ ap (λ x. Some (num, x, drop (length name) (name ++ rest))) (take_at name rest (length name) refl)
    ∙ ap (λ y. Some (num, name, y)) (drop_at name rest (length name) refl)

-- ---- a number of a unit
abbrev sum_of : ℕ → ℕ → ℕ → Option ℕ
sum_of sum whole part = cond (nat_lt (sum + (whole + part)) (2 ^ 64)) (Some (sum + (whole + part))) None

part_added_is : (sum : ℕ) (num : Number) (unit : TimeUnit) → part_added sum num unit ≡ cond ((num.decimals * milliseconds_in unit) % 10 ^ 10 == 0) (sum_of sum (num.whole * milliseconds_in unit) (num.decimals * milliseconds_in unit / 10 ^ 10)) None
unfolding part_added
part_added_is sum num unit = refl

pub record Adds (sum : ℕ) (num : Number) (unit : TimeUnit) (more : ℕ) : Type 0 where
  pub part : ℕ
  pub exact : num.decimals * milliseconds_in unit ≡ part * 10 ^ 10
  pub is : more ≡ sum + (num.whole * milliseconds_in unit + part)

part_added_sound : (sum : ℕ) (num : Number) (unit : TimeUnit) (more : ℕ) → part_added sum num unit ≡ Some more → Adds sum num unit more
part_added_sound sum num unit more h = elim (cases_Bool ((num.decimals * milliseconds_in unit) % 10 ^ 10 == 0)) [
  | inl yes' ↦
      let found = sym (part_added_is sum num unit ∙ cond-true ((num.decimals * milliseconds_in unit) % 10 ^ 10 == 0) (sum_of sum (num.whole * milliseconds_in unit) (num.decimals * milliseconds_in unit / 10 ^ 10)) None yes') ∙ h in
      let parts = cond_some (nat_lt (sum + (num.whole * milliseconds_in unit + num.decimals * milliseconds_in unit / 10 ^ 10)) (2 ^ 64)) (sum + (num.whole * milliseconds_in unit + num.decimals * milliseconds_in unit / 10 ^ 10)) more found in
      let zero' = eqb-true ((num.decimals * milliseconds_in unit) % 10 ^ 10) 0 yes' in
      let whole = div-add-mod' (num.decimals * milliseconds_in unit) (10 ^ 10) in
      record {
        part = num.decimals * milliseconds_in unit / 10 ^ 10;
        exact = divided (num.decimals * milliseconds_in unit) (num.decimals * milliseconds_in unit / 10 ^ 10) ((num.decimals * milliseconds_in unit) % 10 ^ 10) whole zero';
        is = sym parts.1;
      }
  | inr no' ↦ absurd (none-some more (sym (part_added_is sum num unit ∙ cond-false ((num.decimals * milliseconds_in unit) % 10 ^ 10 == 0) (sum_of sum (num.whole * milliseconds_in unit) (num.decimals * milliseconds_in unit / 10 ^ 10)) None no') ∙ h))
]
  where
    divided : (n q r : ℕ) → q * 10 ^ 10 + r ≡ n → r ≡ 0 → n ≡ q * 10 ^ 10
    divided n q r e z = omega arith

part_added_found : (sum : ℕ) (num : Number) (unit : TimeUnit) (part : ℕ) → num.decimals * milliseconds_in unit ≡ part * 10 ^ 10 → sum + (num.whole * milliseconds_in unit + part) < 2 ^ 64 → part_added sum num unit ≡ Some (sum + (num.whole * milliseconds_in unit + part))
part_added_found sum num unit part exact fits =
    let padded : num.decimals * milliseconds_in unit ≡ part * 10 ^ 10 + 0 = omega arith in
    let none : (num.decimals * milliseconds_in unit) % 10 ^ 10 ≡ 0 = ap (λ n. n % 10 ^ 10) padded ∙ mod-mul-add part (10 ^ 10) 0 (omega arith) in
    let quotient : num.decimals * milliseconds_in unit / 10 ^ 10 ≡ part = ap (λ n. n / 10 ^ 10) padded ∙ div-mul-add part (10 ^ 10) 0 (omega arith) in
    part_added_is sum num unit
    ∙ cond-true ((num.decimals * milliseconds_in unit) % 10 ^ 10 == 0) (sum_of sum (num.whole * milliseconds_in unit) (num.decimals * milliseconds_in unit / 10 ^ 10)) None (eq-eqb ((num.decimals * milliseconds_in unit) % 10 ^ 10) 0 none)
    ∙ ap (λ q. sum_of sum (num.whole * milliseconds_in unit) q) quotient
    ∙ cond-true (nat_lt (sum + (num.whole * milliseconds_in unit + part)) (2 ^ 64)) (Some (sum + (num.whole * milliseconds_in unit + part))) None (lt-ltb (sum + (num.whole * milliseconds_in unit + part)) (2 ^ 64) fits)

-- ---- exact sums, over plain numbers
cancelled : (a b p : ℕ) → 0 < p → a * p ≡ b * p → a ≡ b
cancelled a b p some h =
    let up : a ≤ b = le_of_mul-le-mul_right (let l : a * p ≤ b * p = omega arith in l) some in
    let down : b ≤ a = le_of_mul-le-mul_right (let l : b * p ≤ a * p = omega arith in l) some in
    omega arith

-- the milliseconds of a fraction
fraction_value : (n w f s p : ℕ) → 0 < p → n * p ≡ (w * p + f) * s → (m : ℕ) × (n ≡ w * s + m) × (m * p ≡ f * s)
fraction_value n w f s p some h =
    let least : w * s ≤ n = le_of_mul-le-mul_right (let l : w * s * p ≤ n * p = omega arith in l) some in
    let whole : n ≡ w * s + (n - w * s) = omega arith in
    (n - w * s, whole, rest w f s p (n - w * s) (ap (λ k. k * p) (sym whole) ∙ h))
  where
    rest : (w f s p m : ℕ) → (w * s + m) * p ≡ (w * p + f) * s → m * p ≡ f * s
    rest w f s p m e = omega arith

fraction_parts : (d s m p f : ℕ) → 0 < p → d * p ≡ f * 10 ^ 10 → m * p ≡ f * s → d * s ≡ m * 10 ^ 10
fraction_parts d s m p f some h g = cancelled (d * s) (m * 10 ^ 10) p some (crossed d s m p f h g)
  where
    crossed : (d s m p f : ℕ) → d * p ≡ f * 10 ^ 10 → m * p ≡ f * s → d * s * p ≡ m * 10 ^ 10 * p
    crossed d s m p f h g =
        let one : d * p * s ≡ f * 10 ^ 10 * s = ap (λ k. k * s) h in
        omega arith

fraction_exact : (d s q p f : ℕ) → d * s ≡ q * 10 ^ 10 → d * p ≡ f * 10 ^ 10 → q * p ≡ f * s
fraction_exact d s q p f h g =
    let one : d * s * p ≡ q * 10 ^ 10 * p = ap (λ k. k * p) h in
    let two : d * p * s ≡ f * 10 ^ 10 * s = ap (λ k. k * s) g in
    omega arith

-- what a unit lacks of 27 times the parts
cofactor : TimeUnit → ℕ
cofactor u.Day = 3125
cofactor u.Hour = 75000
cofactor u.Minute = 4500000
cofactor u.Second = 270000000
cofactor u.Millisecond = 270000000000

cofactor_is : (unit : TimeUnit) → milliseconds_in unit * cofactor unit ≡ 270000000000
unfolding cofactor
cofactor_is u.Day = refl
cofactor_is u.Hour = refl
cofactor_is u.Minute = refl
cofactor_is u.Second = refl
cofactor_is u.Millisecond = refl

unit_some : (unit : TimeUnit) → 1 ≤ milliseconds_in unit
unit_some u.Day = omega arith
unit_some u.Hour = omega arith
unit_some u.Minute = omega arith
unit_some u.Second = omega arith
unit_some u.Millisecond = omega arith

whole_least : (w : ℕ) (unit : TimeUnit) → w ≤ w * milliseconds_in unit
whole_least w unit = omega (arith, mul-le w 1 w (milliseconds_in unit) (omega arith) (unit_some unit))

-- ---- no unit comes twice
rank : TimeUnit → ℕ
rank u.Day = 4
rank u.Hour = 3
rank u.Minute = 2
rank u.Second = 1
rank u.Millisecond = 0

abbrev Among : List TimeUnit → TimeUnit → Type 0
Among [] v = ⊥
Among (unit ∷ us) v = (unit ≡ v) ⊎ Among us v

abbrev below : TimeUnit → List TimeUnit → Bool
below unit us = list_all (λ v. nat_lt (rank v) (rank unit)) us

abbrev falling : List TimeUnit → Bool
falling [] = true
falling (unit ∷ us) = below unit us && falling us

units_fall : falling units ≡ true
unfolding rank
units_fall = refl

not_among : (unit : TimeUnit) (us : List TimeUnit) (v : TimeUnit) → below unit us ≡ true → Among us v → unit ≡ v → ⊥
not_among unit [] v h a e = a
not_among unit (w ∷ us) v h a e =
    let parts = and_parts (nat_lt (rank w) (rank unit)) (below unit us) h in
    elim a [
      | inl same ↦ (let less = ltb-true (rank w) (rank unit) parts.0 in let one = ap rank same in let two = ap rank e in omega arith)
      | inr more ↦ not_among unit us v parts.1 more e
    ]

-- ---- parts are found
abbrev ending : List TimeUnit → Number → List ℕ → ℕ → Option ℕ
ending us num rest more = cond (length rest == 0) (Some more) (cond num.is_pointed None (parse_part (after_underscore rest) >>= λ next. parts_after us more next.0 next.1 next.2))

take_unit : (unit : TimeUnit) (us : List TimeUnit) (sum : ℕ) (num : Number) (name rest : List ℕ) → same_word name (unit_spelling unit) ≡ true → parts_after (unit ∷ us) sum num name rest ≡ (part_added sum num unit >>= ending us num rest)
take_unit unit us sum num name rest h = cond-true (same_word name (unit_spelling unit)) (part_added sum num unit >>= ending us num rest) (parts_after us sum num name rest) h

pass_unit : (unit : TimeUnit) (us : List TimeUnit) (sum : ℕ) (num : Number) (name rest : List ℕ) → same_word name (unit_spelling unit) ≡ false → parts_after (unit ∷ us) sum num name rest ≡ parts_after us sum num name rest
pass_unit unit us sum num name rest h = cond-false (same_word name (unit_spelling unit)) (part_added sum num unit >>= ending us num rest) (parts_after us sum num name rest) h

record Read (us : List TimeUnit) (bs : List ℕ) (n : ℕ) : Type 0 where
  num : Number
  name : List ℕ
  rest : List ℕ
  unit : TimeUnit
  read : parse_part bs ≡ Some (num, name, rest)
  among : Among us unit
  is_unit : same_word name (unit_spelling unit) ≡ true
  sums : (sum : ℕ) → sum + n < 2 ^ 64 → parts_after us sum num name rest ≡ Some (sum + n)

read_later : (unit : TimeUnit) (us : List TimeUnit) (bs : List ℕ) (n : ℕ) → below unit us ≡ true → Read us bs n → Read (unit ∷ us) bs n
read_later unit us bs n h r = record {
  num = r.num;
  name = r.name;
  rest = r.rest;
  unit = r.unit;
  read = r.read;
  among = inr r.among;
  is_unit = r.is_unit;
  sums = λ sum fits.
      (let other : same_word r.name (unit_spelling unit) ≡ false = false_from_ne_true _ (λ own. not_among unit us r.unit h r.among (one_unit r.name unit r.unit own r.is_unit)) in
      pass_unit unit us sum r.num r.name r.rest other ∙ r.sums sum fits);
}

-- the last part of a duration
read_last : (unit : TimeUnit) (us : List TimeUnit) (bs name : List ℕ) (num : Number) (part n : ℕ) → leading_number bs ≡ Some (num, name) → same_word name (unit_spelling unit) ≡ true → num.decimals * milliseconds_in unit ≡ part * 10 ^ 10 → n ≡ num.whole * milliseconds_in unit + part → Read (unit ∷ us) bs n
read_last unit us bs name num part n led is_unit exact e = record {
  num = num;
  name = name;
  rest = [];
  unit = unit;
  read = part_found bs name [] num (led ∙ ap (λ y. Some (num, y)) (sym (append-nil name))) (unit_letters name unit is_unit) refl;
  among = inl refl;
  is_unit = is_unit;
  sums = λ sum fits.
      (let same : sum + n ≡ sum + (num.whole * milliseconds_in unit + part) = omega arith in
      take_unit unit us sum num name [] is_unit
      ∙ ap (λ o. o >>= ending us num []) (part_added_found sum num unit part exact (subst (λ k. k < 2 ^ 64) same fits))
      ∙ ap Some (sym same));
}

past_underscore : (tail later : List ℕ) → begins_by digit later ≡ true → (tail ≡ later) ⊎ (tail ≡ 95 ∷ later) → after_underscore tail ≡ later
past_underscore tail later h (inl same) = ap after_underscore same ∙ no_underscore later h
  where
    no_underscore : (ys : List ℕ) → begins_by digit ys ≡ true → after_underscore ys ≡ ys
    no_underscore [] g = refl
    no_underscore (y ∷ ys) g = cond-false (y == 95) ys (y ∷ ys) (digit_no_mark y g)
past_underscore tail later h (inr underscored) = ap after_underscore underscored

no_letters : (tail later : List ℕ) → begins_by digit later ≡ true → (tail ≡ later) ⊎ (tail ≡ 95 ∷ later) → begins_by letter tail ≡ false
no_letters tail later h (inl same) = ap (begins_by letter) same ∙ begins_not digit letter later digit_no_letter h
no_letters tail later h (inr underscored) = ap (begins_by letter) underscored

some_tail : (tail later : List ℕ) → begins_by digit later ≡ true → (tail ≡ later) ⊎ (tail ≡ 95 ∷ later) → (length tail == 0) ≡ false
some_tail tail later h (inl same) = ap (λ x. length x == 0) same ∙ not_empty (length later) (digits_some later h)
  where
    digits_some : (ys : List ℕ) → begins_by digit ys ≡ true → 0 < length ys
    digits_some [] g = no_truth g
    digits_some (y ∷ ys) g = omega arith
some_tail tail later h (inr underscored) = ap (λ x. length x == 0) underscored ∙ not_empty (suc (length later)) (omega arith)

read_followed : (unit : TimeUnit) (us : List TimeUnit) (bs name tail later : List ℕ) (w m n : ℕ) → leading_number bs ≡ Some (whole_number w, name ++ tail) → same_word name (unit_spelling unit) ≡ true → begins_by digit later ≡ true → (tail ≡ later) ⊎ (tail ≡ 95 ∷ later) → Read us later m → n ≡ w * milliseconds_in unit + m → Read (unit ∷ us) bs n
read_followed unit us bs name tail later w m n led is_unit dig joined r e = record {
  num = whole_number w;
  name = name;
  rest = tail;
  unit = unit;
  read = part_found bs name tail (whole_number w) led (unit_letters name unit is_unit) (no_letters tail later dig joined);
  among = inl refl;
  is_unit = is_unit;
  sums = λ sum fits.
      (let first : sum + (w * milliseconds_in unit + 0) < 2 ^ 64 = omega arith in
      let total : sum + (w * milliseconds_in unit + 0) + m ≡ sum + n = omega arith in
      let on : parse_part (after_underscore tail) ≡ Some (r.num, r.name, r.rest) = ap parse_part (past_underscore tail later dig joined) ∙ r.read in
      take_unit unit us sum (whole_number w) name tail is_unit
      ∙ ap (λ o. o >>= ending us (whole_number w) tail) (part_added_found sum (whole_number w) unit 0 (let z : 0 * milliseconds_in unit ≡ 0 * 10 ^ 10 = omega arith in z) first)
      ∙ cond-false (length tail == 0) (Some (sum + (w * milliseconds_in unit + 0))) (parse_part (after_underscore tail) >>= λ next. parts_after us (sum + (w * milliseconds_in unit + 0)) next.0 next.1 next.2) (some_tail tail later dig joined)
      ∙ ap (λ o. o >>= λ next. parts_after us (sum + (w * milliseconds_in unit + 0)) next.0 next.1 next.2) on
      ∙ r.sums (sum + (w * milliseconds_in unit + 0)) (omega arith)
      ∙ ap Some total);
}

read_pointed : (unit : TimeUnit) (us : List TimeUnit) (bs whole fraction name : List ℕ) (n : ℕ) → bs ≡ whole ++ 46 ∷ (fraction ++ name) → is_number 10 whole ≡ true → is_number 10 fraction ≡ true → same_word name (unit_spelling unit) ≡ true → n < 2 ^ 64 → n * 10 ^ decimal_places fraction ≡ (number_value 10 whole * 10 ^ decimal_places fraction + number_value 10 fraction) * milliseconds_in unit → Read (unit ∷ us) bs n
unfolding parse_decimals
read_pointed unit us bs whole fraction name n is num frac is_unit fits e =
    let some = power_some (decimal_places fraction) in
    let m = fraction_value n (number_value 10 whole) (number_value 10 fraction) (milliseconds_in unit) (10 ^ decimal_places fraction) some e in
    let found = decimals_complete fraction 10 0 (m.0 * cofactor unit) (number_linked fraction frac) (multiplied m.0 (cofactor unit) (10 ^ decimal_places fraction) (number_value 10 fraction) (milliseconds_in unit) m.2 (cofactor_is unit)) in
    let sound = decimals_sound fraction 10 0 found.0 (number_linked fraction frac) found.1 in
    let same : sound.0 ≡ found.0 = (let s = sound.1 in omega arith) in
    let exact : found.0 * 10 ^ decimal_places fraction ≡ number_value 10 fraction * 10 ^ 10 = ap (λ k. k * 10 ^ decimal_places fraction) (sym same) ∙ sound.2 in
    let least = whole_least (number_value 10 whole) unit in
    let whole_is = m.1 in
    let led : leading_number bs ≡ Some (pointed_number (number_value 10 whole) found.0, name) = ap leading_number is ∙ leading_pointed whole fraction name found.0 num (omega arith) frac (begins_alone name unit is_unit) found.1 in
    read_last unit us bs name (pointed_number (number_value 10 whole) found.0) m.0 n led is_unit (fraction_parts found.0 (milliseconds_in unit) m.0 (10 ^ decimal_places fraction) (number_value 10 fraction) some exact m.2) m.1
  where
    multiplied : (m c p f s : ℕ) → m * p ≡ f * s → s * c ≡ 270000000000 → m * c * p ≡ 27 * f * 10 ^ 10
    multiplied m c p f s h g =
        let one : m * p * c ≡ f * s * c = ap (λ k. k * c) h in
        let two : f * (s * c) ≡ f * 270000000000 = ap (λ k. f * k) g in
        omega arith

    begins_alone : (xs : List ℕ) (v : TimeUnit) → same_word xs (unit_spelling v) ≡ true → begins_by letter xs ≡ true
    begins_alone xs v h = subst (λ y. begins_by letter y ≡ true) (append-nil xs) (unit_begins xs [] v h)

read_parts : (us : List TimeUnit) (bs : List ℕ) (n : ℕ) → falling us ≡ true → n < 2 ^ 64 → Lasts us bs n → Read us bs n
read_parts [] bs n h fits l = absurd l
read_parts (unit ∷ us) bs n h fits (without l) =
    let parts = and_parts (below unit us) (falling us) h in
    read_later unit us bs n parts.0 (read_parts us bs n parts.1 fits l)
read_parts (unit ∷ us) bs n h fits (last whole name is num is_unit e) =
    let least = whole_least (number_value 10 whole) unit in
    let led : leading_number bs ≡ Some (whole_number (number_value 10 whole), name) = ap leading_number is ∙ leading_whole whole name num (omega arith) (subst (λ y. begins_by letter y ≡ true) (append-nil name) (unit_begins name [] unit is_unit)) in
    read_last unit us bs name (whole_number (number_value 10 whole)) 0 n led is_unit (let z : 0 * milliseconds_in unit ≡ 0 * 10 ^ 10 = omega arith in z) (omega arith)
read_parts (unit ∷ us) bs n h fits (pointed whole fraction name is num frac is_unit e) = read_pointed unit us bs whole fraction name n is num frac is_unit fits e
read_parts (unit ∷ us) bs n h fits (followed whole name tail later m is num is_unit joined l e) =
    let parts = and_parts (below unit us) (falling us) h in
    let least = whole_least (number_value 10 whole) unit in
    let r = read_parts us later m parts.1 (omega arith) l in
    let led : leading_number bs ≡ Some (whole_number (number_value 10 whole), name ++ tail) = ap leading_number is ∙ leading_whole whole (name ++ tail) num (omega arith) (unit_begins name tail unit is_unit) in
    read_followed unit us bs name tail later (number_value 10 whole) m n led is_unit (lasts_digit us later m l) joined r e

pub parts_complete : (bs : List ℕ) (n : ℕ) → n < 2 ^ 64 → Lasts units bs n → parse_parts bs ≡ Some n
unfolding parse_parts
parts_complete bs n fits l =
    let r = read_parts units bs n units_fall fits l in
    ap (λ o. o >>= λ part. parts_after units 0 part.0 part.1 part.2) r.read ∙ r.sums 0 (omega arith) ∙ ap Some (let z : 0 + n ≡ n = omega arith in z)

-- ---- what is found are parts
underscore_ways : (rest : List ℕ) → (rest ≡ after_underscore rest) ⊎ (rest ≡ 95 ∷ after_underscore rest)
underscore_ways [] = inl refl
underscore_ways (b ∷ bs) = elim (cases_Bool (b == 95)) [
  | inl yes' ↦ inr (ap (λ c. c ∷ bs) (eqb-true b 95 yes') ∙ ap (λ x. 95 ∷ x) (sym (cond-true (b == 95) bs (b ∷ bs) yes')))
  | inr no' ↦ inl (sym (cond-false (b == 95) bs (b ∷ bs) no'))
]

pub record Sums (us : List TimeUnit) (bs : List ℕ) (sum more : ℕ) : Type 0 where
  pub n : ℕ
  pub is : more ≡ sum + n
  pub lasts : Lasts us bs n

-- a last part
sum_last : (unit : TimeUnit) (us : List TimeUnit) (bs name : List ℕ) (num : Number) (sum more : ℕ) → Led bs num name → same_word name (unit_spelling unit) ≡ true → Adds sum num unit more → Sums (unit ∷ us) bs sum more
unfolding parse_decimals
sum_last unit us bs name num sum more (led_whole whole is number' e) is_unit adds =
    let none : adds.part ≡ 0 = no_part adds.part (milliseconds_in unit) num.decimals adds.exact (ap (λ (z : Number). z.decimals) e) in
    let value = adds.is in
    let w : num.whole * milliseconds_in unit ≡ number_value 10 whole * milliseconds_in unit = ap (λ (z : Number). z.whole * milliseconds_in unit) e in
    record { n = number_value 10 whole * milliseconds_in unit; is = omega arith; lasts = last whole name is number' is_unit refl }
  where
    no_part : (q s d : ℕ) → d * s ≡ q * 10 ^ 10 → d ≡ 0 → q ≡ 0
    no_part q s d x y = (let z : 0 * s ≡ q * 10 ^ 10 = ap (λ k. k * s) (sym y) ∙ x in omega arith)
sum_last unit us bs name num sum more (led_pointed whole fraction d is number' frac found e) is_unit adds =
    let sound = decimals_sound fraction 10 0 d (number_linked fraction frac) found in
    let same : sound.0 ≡ d = (let s = sound.1 in omega arith) in
    let exact : d * 10 ^ decimal_places fraction ≡ number_value 10 fraction * 10 ^ 10 = ap (λ k. k * 10 ^ decimal_places fraction) (sym same) ∙ sound.2 in
    let part : d * milliseconds_in unit ≡ adds.part * 10 ^ 10 = ap (λ (z : Number). z.decimals * milliseconds_in unit) (sym e) ∙ adds.exact in
    let value = adds.is in
    let w : num.whole * milliseconds_in unit ≡ number_value 10 whole * milliseconds_in unit = ap (λ (z : Number). z.whole * milliseconds_in unit) e in
    record {
      n = number_value 10 whole * milliseconds_in unit + adds.part;
      is = omega arith;
      lasts = pointed whole fraction name is number' frac is_unit (exact_sum (number_value 10 whole) (number_value 10 fraction) (milliseconds_in unit) (10 ^ decimal_places fraction) adds.part (fraction_exact d (milliseconds_in unit) adds.part (10 ^ decimal_places fraction) (number_value 10 fraction) part exact));
    }
  where
    exact_sum : (w f s p q : ℕ) → q * p ≡ f * s → (w * s + q) * p ≡ (w * p + f) * s
    exact_sum w f s p q x = omega arith

-- a part with later ones
sum_followed : (unit : TimeUnit) (us : List TimeUnit) (bs name rest : List ℕ) (num : Number) (sum more total : ℕ) → Led bs num (name ++ rest) → num.is_pointed ≡ false → same_word name (unit_spelling unit) ≡ true → Adds sum num unit more → Sums us (after_underscore rest) more total → Sums (unit ∷ us) bs sum total
sum_followed unit us bs name rest num sum more total (led_whole whole is number' e) flat is_unit adds later =
    let none : adds.part ≡ 0 = no_part adds.part (milliseconds_in unit) num.decimals adds.exact (ap (λ (z : Number). z.decimals) e) in
    let value = adds.is in
    let all = later.is in
    let w : num.whole * milliseconds_in unit ≡ number_value 10 whole * milliseconds_in unit = ap (λ (z : Number). z.whole * milliseconds_in unit) e in
    record { n = number_value 10 whole * milliseconds_in unit + later.n; is = omega arith; lasts = followed whole name rest (after_underscore rest) later.n is number' is_unit (underscore_ways rest) later.lasts refl }
  where
    no_part : (q s d : ℕ) → d * s ≡ q * 10 ^ 10 → d ≡ 0 → q ≡ 0
    no_part q s d x y = (let z : 0 * s ≡ q * 10 ^ 10 = ap (λ k. k * s) (sym y) ∙ x in omega arith)
sum_followed unit us bs name rest num sum more total (led_pointed whole fraction d is number' frac found e) flat is_unit adds later = no_truth (sym flat ∙ ap (λ (z : Number). z.is_pointed) e)

abbrev next_parts : List TimeUnit → ℕ → Part → Option ℕ
next_parts us more next = parts_after us more next.0 next.1 next.2

sum_parts : (us : List TimeUnit) (bs : List ℕ) (sum total : ℕ) (num : Number) (name rest : List ℕ) → parse_part bs ≡ Some (num, name, rest) → parts_after us sum num name rest ≡ Some total → Sums us bs sum total
sum_parts [] bs sum total num name rest read h = absurd (none-some total h)
sum_parts (unit ∷ us) bs sum total num name rest read h = elim (cases_Bool (same_word name (unit_spelling unit))) [
  | inl is_unit ↦ option_and_then_some (ending us num rest) (part_added sum num unit) total (sym (take_unit unit us sum num name rest is_unit) ∙ h) (λ more is e.
      let adds = part_added_sound sum num unit more is in
      let led = part_sound bs name rest num read in
      elim (cases_Bool (length rest == 0)) [
        | inl over ↦
            let none : rest ≡ [] = nil_from_length rest (eqb-true (length rest) 0 over) in
            let same : more ≡ total = same_Some more total (sym (cond-true (length rest == 0) (Some more) (cond num.is_pointed None (parse_part (after_underscore rest) >>= next_parts us more)) over) ∙ e) in
            sum_last unit us bs name num sum total (subst (λ y. Led bs num y) (ap (λ x. name ++ x) none ∙ append-nil name) led) is_unit (subst (λ k. Adds sum num unit k) same adds)
        | inr on ↦
            let on' = sym (cond-false (length rest == 0) (Some more) (cond num.is_pointed None (parse_part (after_underscore rest) >>= next_parts us more)) on) ∙ e in
            elim (cases_Bool num.is_pointed) [
              | inl point ↦ absurd (none-some total (sym (cond-true num.is_pointed None (parse_part (after_underscore rest) >>= next_parts us more) point) ∙ on'))
              | inr flat ↦ option_and_then_some (next_parts us more) (parse_part (after_underscore rest)) total (sym (cond-false num.is_pointed None (parse_part (after_underscore rest) >>= next_parts us more) flat) ∙ on') (λ next found rest'.
                  sum_followed unit us bs name rest num sum more total led flat is_unit adds (sum_parts us (after_underscore rest) more total next.0 next.1 next.2 found rest'))
            ]
      ])
  | inr other ↦
      let s = sum_parts us bs sum total num name rest read (sym (pass_unit unit us sum num name rest other) ∙ h) in
      record { n = s.n; is = s.is; lasts = without s.lasts }
]

pub parts_sound : (bs : List ℕ) (n : ℕ) → parse_parts bs ≡ Some n → Lasts units bs n
unfolding parse_parts
parts_sound bs n h = option_and_then_some (next_parts units 0) (parse_part bs) n h (λ part read rest.
    let s = sum_parts units bs 0 n part.0 part.1 part.2 read rest in
    let same : s.n ≡ n = (let e = s.is in omega arith) in
    subst (λ k. Lasts units bs k) same s.lasts)

-- ---- the sign
above_fits : (n : ℕ) → n < 9223372036854775808 → FitsSigned w64 (signed false n)
above_fits n h = record { sfits = h }

below_fits : (n : ℕ) → n ≤ 9223372036854775808 → FitsSigned w64 (signed true n)
below_fits zero h = record { sfits = omega arith }
below_fits (suc n) h = record { sfits = omega arith }

above_bound : (n : ℕ) → FitsSigned w64 (signed false n) → n < 9223372036854775808
above_bound n h = h.sfits

below_bound : (n : ℕ) → FitsSigned w64 (signed true n) → n ≤ 9223372036854775808
below_bound zero h = omega arith
below_bound (suc n) h = let s = h.sfits in omega arith

time_signed : (negative : Bool) (n : ℕ) (v : ℤ) → signed_within (2 ^ 63) negative n ≡ Some v → (v ≡ signed negative n) × FitsSigned w64 v
unfolding signed_within
time_signed true n v h = let parts = cond_some (nat_le n 9223372036854775808) (signed true n) v h in (sym parts.1, subst (λ z. FitsSigned w64 z) parts.1 (below_fits n (leb-true n 9223372036854775808 parts.0)))
time_signed false n v h = let parts = cond_some (nat_lt n 9223372036854775808) (signed false n) v h in (sym parts.1, subst (λ z. FitsSigned w64 z) parts.1 (above_fits n (ltb-true n 9223372036854775808 parts.0)))

time_found : (negative : Bool) (n : ℕ) (v : ℤ) → v ≡ signed negative n → FitsSigned w64 v → (n ≤ 9223372036854775808) × (signed_within (2 ^ 63) negative n ≡ Some v)
unfolding signed_within
time_found true n v e fits = let bound = below_bound n (subst (λ z. FitsSigned w64 z) e fits) in (bound, cond-true (nat_le n 9223372036854775808) (Some (signed true n)) None (le-leb n 9223372036854775808 bound) ∙ ap Some (sym e))
time_found false n v e fits = let bound = above_bound n (subst (λ z. FitsSigned w64 z) e fits) in (omega arith, cond-true (nat_lt n 9223372036854775808) (Some (signed false n)) None (lt-ltb n 9223372036854775808 bound) ∙ ap Some (sym e))

abbrev signed_parts : Bool → List ℕ → Option ℤ
signed_parts negative bs = parse_parts bs >>= signed_within (2 ^ 63) negative

by_back : (x : ℕ) (xs : List ℕ) → (x == 45) ≡ true → parse_time (x ∷ xs) ≡ signed_parts true xs
unfolding parse_time
by_back x xs h = cond-true (x == 45) (signed_parts true xs) (signed_parts false (x ∷ xs)) h

by_ahead : (x : ℕ) (xs : List ℕ) → (x == 45) ≡ false → parse_time (x ∷ xs) ≡ signed_parts false (x ∷ xs)
unfolding parse_time
by_ahead x xs h = cond-false (x == 45) (signed_parts true xs) (signed_parts false (x ∷ xs)) h

by_nil : parse_time [] ≡ signed_parts false []
unfolding parse_time
by_nil = refl

parts_signed : (negative : Bool) (bs : List ℕ) (v : ℤ) → signed_parts negative bs ≡ Some v → (n : ℕ) × Lasts units bs n × (v ≡ signed negative n) × FitsSigned w64 v
parts_signed negative bs v h = option_and_then_some (signed_within (2 ^ 63) negative) (parse_parts bs) v h (λ n e rest.
    let s = time_signed negative n v rest in
    (n, parts_sound bs n e, s.0, s.1))

parts_found : (negative : Bool) (bs : List ℕ) (n : ℕ) (v : ℤ) → Lasts units bs n → v ≡ signed negative n → FitsSigned w64 v → signed_parts negative bs ≡ Some v
parts_found negative bs n v l e fits =
    let found = time_found negative n v e fits in
    let bound = found.0 in
    ap (λ o. o >>= signed_within (2 ^ 63) negative) (parts_complete bs n (omega arith) l) ∙ found.1

pub timed_sound : (bs : List ℕ) (v : ℤ) → parse_time bs ≡ Some v → IsTimed bs v × FitsSigned w64 v
timed_sound [] v h = let s = parts_signed false [] v (sym by_nil ∙ h) in (forward s.0 s.1 s.2, s.3)
timed_sound (x ∷ xs) v h = elim (cases_Bool (x == 45)) [
  | inl minus ↦ (let s = parts_signed true xs v (sym (by_back x xs minus) ∙ h) in (backward xs s.0 (ap (λ c. c ∷ xs) (eqb-true x 45 minus)) s.1 s.2, s.3))
  | inr none ↦ (let s = parts_signed false (x ∷ xs) v (sym (by_ahead x xs none) ∙ h) in (forward s.0 s.1 s.2, s.3))
]

ahead_found : (bs : List ℕ) (n : ℕ) (v : ℤ) → Lasts units bs n → v ≡ signed false n → FitsSigned w64 v → parse_time bs ≡ Some v
ahead_found [] n v l e fits = no_truth (lasts_digit units [] n l)
ahead_found (x ∷ xs) n v l e fits = by_ahead x xs (digit_no_minus x (lasts_digit units (x ∷ xs) n l)) ∙ parts_found false (x ∷ xs) n v l e fits

pub timed_complete : (bs : List ℕ) (v : ℤ) → IsTimed bs v → FitsSigned w64 v → parse_time bs ≡ Some v
timed_complete bs v (forward n l e) fits = ahead_found bs n v l e fits
timed_complete bs v (backward parts n is l e) fits = ap parse_time is ∙ by_back 45 parts refl ∙ parts_found true parts n v l e fits
