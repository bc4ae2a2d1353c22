-- Durations: how many bytes their parts have, and their exact sums.
use Rattle.std.proofs.Common.{◌≡◌, ℕ, suc, ◌+◌, ◌<◌, ◌==◌, ℤ, Bool, true, false, ◌&&◌, ◌||◌, cond, List, [], ◌∷◌, ◌++◌, length, drop, Option, Some, None, refl, sym, ap, ◌∙◌, subst, arith, inl, inr, codes, length-drop}
use Rattle.std.specs.Char.{is_digit, is_ascii_alphabetic, to_ascii_lowercase}
use Rattle.std.specs.List.{list_all}
use Rattle.std.specs.Str.{bytes_eq}
use Rattle.std.proofs.lemmas.Bool.{and_parts, and_from, and_left, and_right, or_left, or_cases, not-true, eqb-true, false_from_ne_true}
use Rattle.std.proofs.lemmas.Bool.Decides.{nat_tests}
use Rattle.std.proofs.lemmas.List.{append_assoc, drop-append-le}
use Rattle.std.proofs.lemmas.List.Folds.{list_all-append}
use Rattle.std.proofs.lemmas.Option.{same_Some}
use Rattle.plant_types.specs.Words.{is_name_byte, folded, same_word}
use Rattle.st_lexer.specs.declared.durations.TimeUnit.{TimeUnit}
use Rattle.st_lexer.specs.declared.durations.TimeUnit.TheVariants as u
use Rattle.st_lexer.specs.Bytes.{is_tied, begins_by, stands_apart, is_linked}
use Rattle.st_lexer.specs.Numbers.{is_number}
use Rattle.st_lexer.specs.Durations.{unit_spelling, units, without, last, pointed, followed, Lasts, IsTimed, forward, backward, IsDuration, short, long}
use Rattle.st_lexer.specs.ReadingLiterals.{tied_len, pointed_len, timed_len, lettered_len}
use Rattle.st_lexer.proofs.Classes.{same_folded, no_truth}
use Rattle.st_lexer.proofs.WordLaws.{tied_over, apart_none, name_byte_tied}
use Rattle.st_lexer.proofs.NumberLaws.{digit_tied, linked_tied, number_tied}
use Rattle.st_lexer.proofs.AddressLaws.{begins_more}
use Rattle.st_lexer.proofs.LiteralLaws.{fronted, begins_on, tied_no_minus, dot, pointed_point, pointed_on, pointed_stop, timed_back, timed_ahead, short_len, long_len}

abbrev pub digit : ℕ → Bool
digit b = is_digit b 10

abbrev pub letter : ℕ → Bool
letter = is_ascii_alphabetic

-- ---- bytes
letter_tied : (b : ℕ) → letter b ≡ true → is_tied b ≡ true
letter_tied b h = name_byte_tied b (or_left (letter b || b == 95) _ (or_left (letter b) (b == 95) h))

letter_no_digit : (b : ℕ) → letter b ≡ true → digit b ≡ false
letter_no_digit b h = grind (arith, nat_tests)

pub letter_no_dot : (b : ℕ) → letter b ≡ true → dot b ≡ false
letter_no_dot b h = grind (arith, nat_tests)

pub letter_no_mark : (b : ℕ) → letter b ≡ true → (digit b || b == 95) ≡ false
letter_no_mark b h = grind (arith, nat_tests)

letter_folded : (b : ℕ) → letter (to_ascii_lowercase b) ≡ letter b
letter_folded b = grind (arith, nat_tests)

tied_no_dot : (b : ℕ) → is_tied b ≡ true → dot b ≡ false
unfolding is_tied
tied_no_dot b h = false_from_ne_true (dot b) (λ d. no_truth (sym (ap (λ c. is_name_byte c || c == 35) (eqb-true b 46 d)) ∙ h))

pub digit_no_mark : (b : ℕ) → digit b ≡ true → (b == 95) ≡ false
digit_no_mark b h = grind (arith, nat_tests)

pub digit_no_letter : (b : ℕ) → digit b ≡ true → letter b ≡ false
digit_no_letter b h = grind (arith, nat_tests)

-- ---- units
letters_folded : (bs : List ℕ) → list_all letter (folded bs) ≡ list_all letter bs
letters_folded [] = refl
letters_folded (b ∷ bs) = ap (λ x. x && list_all letter (folded bs)) (letter_folded b) ∙ ap (λ x. letter b && x) (letters_folded bs)

name_letters : (unit : TimeUnit) → list_all letter (folded (unit_spelling unit)) ≡ true
name_letters u.Day = refl
name_letters u.Hour = refl
name_letters u.Minute = refl
name_letters u.Second = refl
name_letters u.Millisecond = refl

pub unit_letters : (name : List ℕ) (unit : TimeUnit) → same_word name (unit_spelling unit) ≡ true → list_all letter name ≡ true
unit_letters name unit h = sym (letters_folded name) ∙ ap (list_all letter) (same_folded name (unit_spelling unit) h) ∙ name_letters unit

no_empty_unit : (unit : TimeUnit) → same_word [] (unit_spelling unit) ≡ true → ⊥
no_empty_unit u.Day h = no_truth h
no_empty_unit u.Hour h = no_truth h
no_empty_unit u.Minute h = no_truth h
no_empty_unit u.Second h = no_truth h
no_empty_unit u.Millisecond h = no_truth h

pub unit_begins : (name ys : List ℕ) (unit : TimeUnit) → same_word name (unit_spelling unit) ≡ true → begins_by letter (name ++ ys) ≡ true
unit_begins [] ys unit h = absurd (no_empty_unit unit h)
unit_begins (b ∷ name) ys unit h = (and_parts (letter b) (list_all letter name) (unit_letters (b ∷ name) unit h)).0

-- the unit of this name
abbrev unit_of : List ℕ → Option TimeUnit
unit_of w = cond (bytes_eq w (folded (unit_spelling u.Day))) (Some u.Day) (cond (bytes_eq w (folded (unit_spelling u.Hour))) (Some u.Hour) (cond (bytes_eq w (folded (unit_spelling u.Minute))) (Some u.Minute) (cond (bytes_eq w (folded (unit_spelling u.Second))) (Some u.Second) (cond (bytes_eq w (folded (unit_spelling u.Millisecond))) (Some u.Millisecond) None))))

unit_self : (unit : TimeUnit) → unit_of (folded (unit_spelling unit)) ≡ Some unit
unit_self u.Day = refl
unit_self u.Hour = refl
unit_self u.Minute = refl
unit_self u.Second = refl
unit_self u.Millisecond = refl

pub one_unit : (name : List ℕ) (a b : TimeUnit) → same_word name (unit_spelling a) ≡ true → same_word name (unit_spelling b) ≡ true → a ≡ b
one_unit name a b h g = same_Some a b (sym (unit_self a) ∙ ap unit_of (sym (same_folded name (unit_spelling a) h) ∙ same_folded name (unit_spelling b) g) ∙ unit_self b)

-- ---- how many bytes parts have
pub begins_not : (test other : ℕ → Bool) (ys : List ℕ) → ((b : ℕ) → test b ≡ true → other b ≡ false) → begins_by test ys ≡ true → begins_by other ys ≡ false
begins_not test other [] apart h = no_truth h
begins_not test other (b ∷ ys) apart h = apart b h

no_dot_on : (b : ℕ) (bs ys : List ℕ) → list_all is_tied bs ≡ true → begins_by dot ys ≡ false → begins_by dot (bs ++ ys) ≡ false
no_dot_on b [] ys tied h = h
no_dot_on b (c ∷ bs) ys tied h = tied_no_dot c (and_parts (is_tied c) (list_all is_tied bs) tied).0

tied_pass : (xs ys : List ℕ) → list_all is_tied xs ≡ true → begins_by dot ys ≡ false → pointed_len (xs ++ ys) ≡ length xs + pointed_len ys
tied_pass [] ys tied h = omega arith
tied_pass (x ∷ xs) ys tied h =
    let parts = and_parts (is_tied x) (list_all is_tied xs) tied in
    let on = pointed_on x (xs ++ ys) parts.0 (and_right (digit x) (begins_by dot (xs ++ ys)) (no_dot_on x xs ys parts.1 h)) in
    let more = tied_pass xs ys parts.1 h in
    omega arith

letters_pass : (xs ys : List ℕ) → list_all letter xs ≡ true → pointed_len (xs ++ ys) ≡ length xs + pointed_len ys
letters_pass [] ys h = omega arith
letters_pass (x ∷ xs) ys h =
    let parts = and_parts (letter x) (list_all letter xs) h in
    let on = pointed_on x (xs ++ ys) (letter_tied x parts.0) (and_left (digit x) (begins_by dot (xs ++ ys)) (letter_no_digit x parts.0)) in
    let more = letters_pass xs ys parts.1 in
    omega arith

letters_tied : (xs : List ℕ) → list_all letter xs ≡ true → list_all is_tied xs ≡ true
letters_tied [] h = refl
letters_tied (x ∷ xs) h = let parts = and_parts (letter x) (list_all letter xs) h in and_from (is_tied x) (list_all is_tied xs) (letter_tied x parts.0) (letters_tied xs parts.1)

only_digit : (x : ℕ) → is_linked digit 95 (x ∷ []) ≡ true → digit x ≡ true
only_digit x h = elim (or_cases (digit x) (x == 95 && false) (and_parts (digit x || (x == 95 && false)) true h).0) [
  | inl d ↦ d
  | inr m ↦ no_truth (and_parts (x == 95) false m).1
]

point_pass : (xs ys : List ℕ) → 0 < length xs → is_linked digit 95 xs ≡ true → pointed_len (xs ++ 46 ∷ ys) ≡ length xs + (1 + tied_len ys)
point_pass [] ys some h = absurd (omega arith)
point_pass (x ∷ []) ys some h =
    let d = only_digit x h in
    let on = pointed_point x (46 ∷ ys) (digit_tied x 10 (omega arith) d) (and_from (digit x) true d refl) in
    omega arith
point_pass (x ∷ z ∷ zs) ys some h =
    let tied = linked_tied 10 (x ∷ z ∷ zs) (omega arith) h in
    let one = and_parts (is_tied x) (list_all is_tied (z ∷ zs)) tied in
    let two = and_parts (is_tied z) (list_all is_tied zs) one.1 in
    let on = pointed_on x (z ∷ (zs ++ 46 ∷ ys)) one.0 (and_right (digit x) (dot z) (tied_no_dot z two.0)) in
    let more = point_pass (z ∷ zs) ys (omega arith) (and_parts (digit x || (x == 95 && begins_by digit (z ∷ zs))) (is_linked digit 95 (z ∷ zs)) h).1 in
    omega arith

pointed_none : (rest : List ℕ) → stands_apart rest ≡ true → pointed_len rest ≡ 0
pointed_none [] h = refl
pointed_none (b ∷ bs) h = pointed_stop b bs (not-true (is_tied b) h)

-- a length goes over these bytes, and not on where nothing is tied to them
pub record Passes (far : List ℕ → ℕ) (bs rest : List ℕ) : Type 0 where
  pub beyond : ℕ
  pub is : far (bs ++ rest) ≡ length bs + beyond
  pub apart : stands_apart rest ≡ true → beyond ≡ 0

pub number_some : (base : ℕ) (bs : List ℕ) → is_number base bs ≡ true → 0 < length bs
number_some base [] h = no_truth h
number_some base (b ∷ bs) h = omega arith

pub number_linked : (bs : List ℕ) → is_number 10 bs ≡ true → is_linked digit 95 bs ≡ true
number_linked bs h = (and_parts (begins_by digit bs) (is_linked digit 95 bs) h).1

pub number_begins : (bs : List ℕ) → is_number 10 bs ≡ true → begins_by digit bs ≡ true
number_begins bs h = (and_parts (begins_by digit bs) (is_linked digit 95 bs) h).0

-- a whole number and a unit
part_pass : (whole name ys : List ℕ) (unit : TimeUnit) → is_number 10 whole ≡ true → same_word name (unit_spelling unit) ≡ true → pointed_len (whole ++ (name ++ ys)) ≡ length whole + (length name + pointed_len ys)
part_pass whole name ys unit num is_unit =
    tied_pass whole (name ++ ys) (number_tied 10 whole (omega arith) num) (begins_not letter dot (name ++ ys) letter_no_dot (unit_begins name ys unit is_unit))
    ∙ ap (λ n. length whole + n) (letters_pass name ys (unit_letters name unit is_unit))

length_of : (xs ys : List ℕ) → length (xs ++ ys) ≡ length xs + length ys
length_of [] ys = omega arith
length_of (x ∷ xs) ys = let more = length_of xs ys in omega arith

last_pass : (whole name rest : List ℕ) (unit : TimeUnit) → is_number 10 whole ≡ true → same_word name (unit_spelling unit) ≡ true → Passes pointed_len (whole ++ name) rest
last_pass whole name rest unit num is_unit = record {
  beyond = pointed_len rest;
  is = ap pointed_len (append_assoc whole name rest) ∙ part_pass whole name rest unit num is_unit ∙ (let size = length_of whole name in let e : length whole + (length name + pointed_len rest) ≡ length (whole ++ name) + pointed_len rest = omega arith in e);
  apart = pointed_none rest;
}

pointed_pass : (whole fraction name rest : List ℕ) (unit : TimeUnit) → is_number 10 whole ≡ true → is_number 10 fraction ≡ true → same_word name (unit_spelling unit) ≡ true → Passes pointed_len (whole ++ 46 ∷ (fraction ++ name)) rest
pointed_pass whole fraction name rest unit num frac is_unit =
    let tied : list_all is_tied (fraction ++ name) ≡ true = list_all-append is_tied fraction name ∙ and_from _ _ (number_tied 10 fraction (omega arith) frac) (letters_tied name (unit_letters name unit is_unit)) in
    let over = tied_over (fraction ++ name) rest tied in
    let point = point_pass whole ((fraction ++ name) ++ rest) (number_some 10 whole num) (number_linked whole num) in
    let size = length_of whole (46 ∷ (fraction ++ name)) in
    record {
      beyond = tied_len rest;
      is = ap pointed_len (append_assoc whole (46 ∷ (fraction ++ name)) rest) ∙ point ∙ (let e : length whole + (1 + tied_len ((fraction ++ name) ++ rest)) ≡ length (whole ++ 46 ∷ (fraction ++ name)) + tied_len rest = omega arith in e);
      apart = apart_none rest;
    }

followed_pass : (whole name tail rest : List ℕ) (unit : TimeUnit) → is_number 10 whole ≡ true → same_word name (unit_spelling unit) ≡ true → Passes pointed_len tail rest → Passes pointed_len (whole ++ (name ++ tail)) rest
followed_pass whole name tail rest unit num is_unit later =
    let more = later.is in
    let size = length_of whole (name ++ tail) in
    let size' = length_of name tail in
    let pass = part_pass whole name (tail ++ rest) unit num is_unit in
    record {
      beyond = later.beyond;
      is = ap pointed_len (append_assoc whole (name ++ tail) rest ∙ ap (λ x. whole ++ x) (append_assoc name tail rest)) ∙ pass ∙ (let e : length whole + (length name + pointed_len (tail ++ rest)) ≡ length (whole ++ (name ++ tail)) + later.beyond = omega arith in e);
      apart = later.apart;
    }

underscore_pass : (tail rest : List ℕ) → Passes pointed_len tail rest → Passes pointed_len (95 ∷ tail) rest
unfolding is_tied
underscore_pass tail rest later =
    let more = later.is in
    let on = pointed_on 95 (tail ++ rest) refl refl in
    record { beyond = later.beyond; is = (let e : pointed_len (95 ∷ (tail ++ rest)) ≡ suc (length tail) + later.beyond = omega arith in e); apart = later.apart }

pub parts_pass : (us : List TimeUnit) (bs rest : List ℕ) (n : ℕ) → Lasts us bs n → Passes pointed_len bs rest
parts_pass [] bs rest n h = absurd h
parts_pass (unit ∷ us) bs rest n (without h) = parts_pass us bs rest n h
parts_pass (unit ∷ us) bs rest n (last whole name is num is_unit e) = subst (λ x. Passes pointed_len x rest) (sym is) (last_pass whole name rest unit num is_unit)
parts_pass (unit ∷ us) bs rest n (pointed whole fraction name is num frac is_unit e) = subst (λ x. Passes pointed_len x rest) (sym is) (pointed_pass whole fraction name rest unit num frac is_unit)
parts_pass (unit ∷ us) bs rest n (followed whole name tail later m is num is_unit joined h e) =
    let pass = parts_pass us later rest m h in
    let whole_pass : Passes pointed_len tail rest = elim joined [
      | inl same ↦ subst (λ x. Passes pointed_len x rest) (sym same) pass
      | inr underscored ↦ subst (λ x. Passes pointed_len x rest) (sym underscored) (underscore_pass later rest pass)
    ] in
    subst (λ x. Passes pointed_len x rest) (sym is) (followed_pass whole name tail rest unit num is_unit whole_pass)

-- parts begin with a digit
pub lasts_digit : (us : List TimeUnit) (bs : List ℕ) (n : ℕ) → Lasts us bs n → begins_by digit bs ≡ true
lasts_digit [] bs n h = absurd h
lasts_digit (unit ∷ us) bs n (without h) = lasts_digit us bs n h
lasts_digit (unit ∷ us) bs n (last whole name is num is_unit e) = subst (λ x. begins_by digit x ≡ true) (sym is) (begins_more digit whole name (number_begins whole num))
lasts_digit (unit ∷ us) bs n (pointed whole fraction name is num frac is_unit e) = subst (λ x. begins_by digit x ≡ true) (sym is) (begins_more digit whole (46 ∷ (fraction ++ name)) (number_begins whole num))
lasts_digit (unit ∷ us) bs n (followed whole name tail later m is num is_unit joined h e) = subst (λ x. begins_by digit x ≡ true) (sym is) (begins_more digit whole (name ++ tail) (number_begins whole num))

pub digit_no_minus : (b : ℕ) → digit b ≡ true → (b == 45) ≡ false
digit_no_minus b h = tied_no_minus b (digit_tied b 10 (omega arith) h)

ahead_pass : (xs rest : List ℕ) → begins_by digit xs ≡ true → Passes pointed_len xs rest → Passes timed_len xs rest
ahead_pass [] rest h pass = no_truth h
ahead_pass (x ∷ xs) rest h pass = record { beyond = pass.beyond; is = timed_ahead x (xs ++ rest) (digit_no_minus x h) ∙ pass.is; apart = pass.apart }

back_pass : (parts rest : List ℕ) → Passes pointed_len parts rest → Passes timed_len (45 ∷ parts) rest
back_pass parts rest pass =
    let more = pass.is in
    let on = timed_back 45 (parts ++ rest) refl in
    record { beyond = pass.beyond; is = (let e : timed_len (45 ∷ (parts ++ rest)) ≡ suc (length parts) + pass.beyond = omega arith in e); apart = pass.apart }

timed_pass : (xs rest : List ℕ) (v : ℤ) → IsTimed xs v → Passes timed_len xs rest
timed_pass xs rest v (forward n h e) = ahead_pass xs rest (lasts_digit units xs n h) (parts_pass units xs rest n h)
timed_pass xs rest v (backward parts n is h e) = subst (λ x. Passes timed_len x rest) (sym is) (back_pass parts rest (parts_pass units parts rest n h))

pub duration_pass : (bs rest : List ℕ) (v : ℤ) → IsDuration bs v → Passes lettered_len bs rest
duration_pass bs rest v (short begins timed fits) =
    let fit = (fronted (codes "T#") bs begins).long in
    let pass = timed_pass (drop 2 bs) rest v timed in
    let more = pass.is in
    let cut = ap timed_len (drop-append-le 2 bs rest fit) in
    let size = length-drop 2 bs in
    record { beyond = pass.beyond; is = short_len (bs ++ rest) (begins_on (codes "T#") bs rest begins) ∙ (let e : 2 + timed_len (drop 2 (bs ++ rest)) ≡ length bs + pass.beyond = omega arith in e); apart = pass.apart }
duration_pass bs rest v (long begins timed fits) =
    let fit = (fronted (codes "TIME#") bs begins).long in
    let pass = timed_pass (drop 5 bs) rest v timed in
    let more = pass.is in
    let cut = ap timed_len (drop-append-le 5 bs rest fit) in
    let size = length-drop 5 bs in
    record { beyond = pass.beyond; is = long_len (bs ++ rest) (begins_on (codes "TIME#") bs rest begins) ∙ (let e : 5 + timed_len (drop 5 (bs ++ rest)) ≡ length bs + pass.beyond = omega arith in e); apart = pass.apart }
