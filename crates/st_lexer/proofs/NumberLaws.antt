-- Numbers and integers: what is parsed is their value.
use Rattle.std.proofs.Common.{◌≡◌, ℕ, ◌+◌, ◌*◌, ◌^◌, ◌<◌, ◌≤◌, ◌==◌, nat_lt, nat_le, nat_eq, true, false, not, ◌&&◌, ◌||◌, cond, List, [], ◌∷◌, length, filter, drop, Some, None, refl, sym, ap, ◌∙◌, subst, arith, inl, inr}
use Rattle.std.specs.Char.{is_digit, digit_value}
use Rattle.std.specs.List.{list_all, starts_with}
use Rattle.std.specs.Str.Parse.{digits_value_after}
use Rattle.std.proofs.lemmas.Bool.{and_parts, and_from, or_left, or_cases, cases_Bool, lt-ltb, le-leb, leb-true, eqb-true}
use Rattle.std.proofs.lemmas.Bool.Decides.{nat_tests, Decides-eqb}
use Rattle.std.proofs.lemmas.Option.{cond_some, same_Some, none-some, option_and_then_some}
use Rattle.std.proofs.lemmas.Nat.{mul-le}
use Rattle.std.proofs.lemmas.List.Folds.{list_all-append}
use Rattle.std.proofs.lemmas.Slice.Eq.{starts_is}
use Rattle.plant_types.specs.Words.{is_name_byte}
use Rattle.st_lexer.specs.Bytes.{is_tied, begins_by, is_linked}
use Rattle.st_lexer.specs.Numbers.{is_number, number_value, base_of, digits_of, IsInteger}
use Rattle.plant_types.specs.Options.{◌>>=◌}
use Rattle.st_lexer.specs.ReadingLiterals.{number_step, number_after, parse_number, parse_integer}
use Rattle.st_lexer.proofs.Classes.{binary, octal, hexadecimal, decimal, based}

-- the digits, with the underscores left out
abbrev pub without_underscores : List ℕ → List ℕ
without_underscores bs = filter (λ b. not (b == 95)) bs

-- ---- what is tied together
pub digit_tied : (b base : ℕ) → base ≤ 36 → is_digit b base ≡ true → is_tied b ≡ true
unfolding is_tied
digit_tied b base small h = grind (arith, nat_tests)

underscore_tied : (c : ℕ) → (c == 95) ≡ true → is_tied c ≡ true
unfolding is_tied
underscore_tied c e = ap (λ b. is_name_byte b || b == 35) (eqb-true c 95 e)

pub linked_tied : (base : ℕ) (bs : List ℕ) → base ≤ 36 → is_linked (λ b. is_digit b base) 95 bs ≡ true → list_all is_tied bs ≡ true
linked_tied base [] small h = refl
linked_tied base (b ∷ bs) small h =
    let parts = and_parts (is_digit b base || (b == 95 && begins_by (λ c. is_digit c base) bs)) (is_linked (λ c. is_digit c base) 95 bs) h in
    and_from (is_tied b) (list_all is_tied bs) (each parts.0) (linked_tied base bs small parts.1)
  where
    each : (is_digit b base || (b == 95 && begins_by (λ c. is_digit c base) bs)) ≡ true → is_tied b ≡ true
    each e = elim (or_cases (is_digit b base) (b == 95 && begins_by (λ c. is_digit c base) bs) e) [
      | inl digit ↦ digit_tied b base small digit
      | inr mark ↦ underscore_tied b (and_parts (b == 95) (begins_by (λ c. is_digit c base) bs) mark).0
    ]

pub number_tied : (base : ℕ) (bs : List ℕ) → base ≤ 36 → is_number base bs ≡ true → list_all is_tied bs ≡ true
number_tied base bs small h = linked_tied base bs small (and_parts (begins_by (λ b. is_digit b base) bs) (is_linked (λ b. is_digit b base) 95 bs) h).1

-- what begins by tied bytes and goes on with tied bytes is tied
prefix_tied : (prefix bs : List ℕ) → list_all is_tied prefix ≡ true → starts_with nat_eq bs prefix ≡ true → list_all is_tied (drop (length prefix) bs) ≡ true → list_all is_tied bs ≡ true
prefix_tied prefix bs front starts back =
    let whole = (starts_is Decides-eqb bs prefix (starts_with nat_eq bs prefix) refl).0 starts in
    subst (λ x. list_all is_tied x ≡ true) (sym whole) (list_all-append is_tied prefix (drop (length prefix) bs) ∙ and_from _ _ front back)

pub integer_tied : (bs : List ℕ) (n : ℕ) → IsInteger bs n → list_all is_tied bs ≡ true
unfolding is_tied
integer_tied bs n h = elim (based bs) [
  | binary starts base digits ↦ prefix_tied (50 ∷ 35 ∷ []) bs refl starts (number_tied 2 (drop 2 bs) (omega arith) (moved 2 (drop 2 bs) base digits))
  | octal starts base digits ↦ prefix_tied (56 ∷ 35 ∷ []) bs refl starts (number_tied 8 (drop 2 bs) (omega arith) (moved 8 (drop 2 bs) base digits))
  | hexadecimal starts base digits ↦ prefix_tied (49 ∷ 54 ∷ 35 ∷ []) bs refl starts (number_tied 16 (drop 3 bs) (omega arith) (moved 16 (drop 3 bs) base digits))
  | decimal base digits ↦ number_tied 10 bs (omega arith) (moved 10 bs base digits)
]
  where
    moved : (base : ℕ) (digits : List ℕ) → base_of bs ≡ base → digits_of bs ≡ digits → is_number base digits ≡ true
    moved base digits e f = subst (λ d. is_number base d ≡ true) f (subst (λ x. is_number x (digits_of bs) ≡ true) e h.digits)

-- ---- values
not_mark : (b base : ℕ) → base ≤ 36 → is_digit b base ≡ true → (b == 95) ≡ false
not_mark b base small h = grind (arith, nat_tests)

mark_no_digit : (base : ℕ) → base ≤ 36 → is_digit 95 base ≡ false
mark_no_digit base small = grind (arith, nat_tests)

le_times : (n base d : ℕ) → 0 < base → n ≤ n * base + d
le_times n base d more = omega (arith, mul-le n 1 n base (omega arith) (omega arith))

value_ge : (base n : ℕ) (cs : List ℕ) → 0 < base → n ≤ digits_value_after base n cs
value_ge base n [] more = omega arith
value_ge base n (c ∷ cs) more = omega (arith, value_ge base (n * base + digit_value c) cs more, le_times n base (digit_value c) more)

-- a step goes on over a digit or an underscore before one
step_sound : (base n b : ℕ) (bs : List ℕ) (m : ℕ) → base ≤ 36 → number_step base n b bs ≡ Some m →
    ((is_digit b base || (b == 95 && begins_by (λ c. is_digit c base) bs)) ≡ true) × ((cs : List ℕ) → digits_value_after base m (without_underscores cs) ≡ digits_value_after base n (without_underscores (b ∷ cs)))
unfolding number_step
step_sound base n b bs m small h = elim (cases_Bool (is_digit b base)) [
  | inl digit ↦
      let e : cond (nat_lt (n * base + digit_value b) (2 ^ 64)) (Some (n * base + digit_value b)) None ≡ Some m = sym (rw digit refl) ∙ h in
      let same : n * base + digit_value b ≡ m = (cond_some (nat_lt (n * base + digit_value b) (2 ^ 64)) (n * base + digit_value b) m e).1 in
      (or_left _ _ digit, λ cs. rw (not_mark b base small digit) (ap (λ x. digits_value_after base x (without_underscores cs)) (sym same)))
  | inr none ↦
      let e : cond (b == 95 && begins_by (λ c. is_digit c base) bs) (Some n) None ≡ Some m = sym (rw none refl) ∙ h in
      let parts = cond_some (b == 95 && begins_by (λ c. is_digit c base) bs) n m e in
      let mark = (and_parts (b == 95) (begins_by (λ c. is_digit c base) bs) parts.0).0 in
      (rw none parts.0, λ cs. rw mark (ap (λ x. digits_value_after base x (without_underscores cs)) (sym parts.1)))
]

after_sound : (base n : ℕ) (bs : List ℕ) (m : ℕ) → base ≤ 36 → number_after base n bs ≡ Some m → (is_linked (λ b. is_digit b base) 95 bs ≡ true) × (m ≡ digits_value_after base n (without_underscores bs))
after_sound base n [] m small h = (refl, sym (same_Some n m h))
after_sound base n (b ∷ bs) m small h = option_and_then_some (λ x. number_after base x bs) (number_step base n b bs) m h (λ x e rest.
    let step = step_sound base n b bs x small e in
    let more = after_sound base x bs m small rest in
    (and_from _ _ step.0 more.0, more.1 ∙ step.1 bs))

step_complete : (base n b : ℕ) (bs : List ℕ) → base ≤ 36 → 0 < base → (is_digit b base || (b == 95 && begins_by (λ c. is_digit c base) bs)) ≡ true → digits_value_after base n (without_underscores (b ∷ bs)) < 2 ^ 64 →
    (m : ℕ) × (number_step base n b bs ≡ Some m) × (digits_value_after base m (without_underscores bs) ≡ digits_value_after base n (without_underscores (b ∷ bs)))
unfolding number_step
step_complete base n b bs small more h fits = elim (cases_Bool (is_digit b base)) [
  | inl digit ↦
      let same : digits_value_after base (n * base + digit_value b) (without_underscores bs) ≡ digits_value_after base n (without_underscores (b ∷ bs)) = rw (not_mark b base small digit) refl in
      let below : n * base + digit_value b < 2 ^ 64 = omega (arith, value_ge base (n * base + digit_value b) (without_underscores bs) more) in
      (n * base + digit_value b, rw digit (rw (lt-ltb (n * base + digit_value b) (2 ^ 64) below) refl), same)
  | inr none ↦
      let both : (b == 95 && begins_by (λ c. is_digit c base) bs) ≡ true = sym (rw none refl) ∙ h in
      let mark = (and_parts (b == 95) (begins_by (λ c. is_digit c base) bs) both).0 in
      (n, rw none (rw both refl), rw mark refl)
]

after_complete : (base n : ℕ) (bs : List ℕ) → base ≤ 36 → 0 < base → is_linked (λ b. is_digit b base) 95 bs ≡ true → digits_value_after base n (without_underscores bs) < 2 ^ 64 → number_after base n bs ≡ Some (digits_value_after base n (without_underscores bs))
after_complete base n [] small more h fits = refl
after_complete base n (b ∷ bs) small more h fits =
    let parts = and_parts (is_digit b base || (b == 95 && begins_by (λ c. is_digit c base) bs)) (is_linked (λ c. is_digit c base) 95 bs) h in
    let step = step_complete base n b bs small more parts.0 fits in
    let rest = after_complete base step.0 bs small more parts.1 (subst (λ x. x < 2 ^ 64) (sym step.2) fits) in
    ap (λ o. o >>= λ m. number_after base m bs) step.1 ∙ rest ∙ ap Some step.2

pub number_sound : (base : ℕ) (bs : List ℕ) (n : ℕ) → base ≤ 36 → parse_number base bs ≡ Some n → (is_number base bs ≡ true) × (n ≡ number_value base bs)
unfolding parse_number
number_sound base bs n small h = elim (cases_Bool (begins_by (λ b. is_digit b base) bs)) [
  | inl begins ↦ (let e : number_after base 0 bs ≡ Some n = sym (rw begins refl) ∙ h in let s = after_sound base 0 bs n small e in (and_from _ _ begins s.0, s.1))
  | inr none ↦ absurd (none-some n (sym (rw none refl) ∙ h))
]

pub number_complete : (base : ℕ) (bs : List ℕ) → base ≤ 36 → 0 < base → is_number base bs ≡ true → number_value base bs < 2 ^ 64 → parse_number base bs ≡ Some (number_value base bs)
unfolding parse_number
number_complete base bs small more h fits =
    let parts = and_parts (begins_by (λ b. is_digit b base) bs) (is_linked (λ b. is_digit b base) 95 bs) h in
    rw parts.0 (after_complete base 0 bs small more parts.1 fits)

base_between : (bs : List ℕ) → (base_of bs ≤ 36) × (0 < base_of bs)
base_between bs = elim (based bs) [
  | binary starts base digits ↦ (omega arith, omega arith)
  | octal starts base digits ↦ (omega arith, omega arith)
  | hexadecimal starts base digits ↦ (omega arith, omega arith)
  | decimal base digits ↦ (omega arith, omega arith)
]

pub integer_sound : (bs : List ℕ) (n : ℕ) → parse_integer bs ≡ Some n → IsInteger bs n
unfolding parse_integer
integer_sound bs n h = option_and_then_some (λ x. cond (nat_le x 2147483648) (Some x) None) (parse_number (base_of bs) (digits_of bs)) n h (λ x e rest.
    let most = cond_some (nat_le x 2147483648) x n rest in
    let s = number_sound (base_of bs) (digits_of bs) x (base_between bs).0 e in
    let same = most.1 in
    let bound = leb-true x 2147483648 most.0 in
    record { digits = s.0; value = sym same ∙ s.1; most = omega arith })

pub integer_complete : (bs : List ℕ) (n : ℕ) → IsInteger bs n → parse_integer bs ≡ Some n
unfolding parse_integer
integer_complete bs n h =
    let most = h.most in
    let value = h.value in
    let e = number_complete (base_of bs) (digits_of bs) (base_between bs).0 (base_between bs).1 h.digits (omega arith) in
    ap (λ o. o >>= λ x. cond (nat_le x 2147483648) (Some x) None) (e ∙ ap Some (sym value)) ∙ (let bound : nat_le n 2147483648 ≡ true = le-leb n 2147483648 most in rw bound refl)

-- an integer has bytes
pub integer_some : (n : ℕ) → IsInteger [] n → ⊥
integer_some n h = elim (based []) [
  | binary starts base digits ↦ absurd (let e : false ≡ true = starts in cc)
  | octal starts base digits ↦ absurd (let e : false ≡ true = starts in cc)
  | hexadecimal starts base digits ↦ absurd (let e : false ≡ true = starts in cc)
  | decimal base digits ↦ absurd (let e : false ≡ true = h.digits in cc)
]
