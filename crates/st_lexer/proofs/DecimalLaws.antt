-- Digits after a point: when they are a whole multiple of 10 ^ -10.
use Rattle.std.proofs.Common.{◌≡◌, ℕ, zero, suc, ◌+◌, ◌-◌, ◌*◌, ◌/◌, ◌^◌, ◌<◌, ◌≤◌, ◌==◌, Bool, true, false, not, ◌&&◌, ◌||◌, List, [], ◌∷◌, length, Option, Some, None, refl, sym, ap, ◌∙◌, subst, arith, inl, inr, pow-suc, le_of_mul-le-mul_right, mul-div_cancel}
use Rattle.std.specs.Char.{is_digit, digit_value}
use Rattle.std.specs.Str.Parse.{digits_value, digits_value_after, AllDigits}
use Rattle.std.proofs.lemmas.Bool.{and_parts, or_cases, cases_Bool, ltb-true, eqb-true, ne_eqb, cond-true, cond-false}
use Rattle.std.proofs.lemmas.Bool.Decides.{nat_tests}
use Rattle.std.proofs.lemmas.Int.Digits.{digits_value-lt}
use Rattle.std.proofs.lemmas.Option.{same_Some, none-some}
use Rattle.st_lexer.specs.Bytes.{begins_by, is_linked}
use Rattle.st_lexer.specs.Durations.{decimal_places}
use Rattle.plant_types.specs.Options.{◌>>=◌}
use Rattle.st_lexer.specs.ReadingLiterals.{decimal_step, decimals_after}
use Rattle.st_lexer.proofs.Classes.{no_truth}
use Rattle.st_lexer.proofs.NumberLaws.{without_underscores}

abbrev digit : ℕ → Bool
digit b = is_digit b 10

abbrev decimal_value : List ℕ → ℕ
decimal_value bs = digits_value 10 (without_underscores bs)

-- ---- powers of ten
pub power_some : (k : ℕ) → 0 < 10 ^ k
power_some zero = omega arith
power_some (suc k) = let e = pow-suc 10 k in let some = power_some k in omega arith

tenth : (k : ℕ) → 10 ^ suc k / 10 ≡ 10 ^ k
tenth k = ap (λ n. n / 10) (pow-suc 10 k) ∙ mul-div_cancel (10 ^ k) (omega arith)

not_one : (k : ℕ) → (10 ^ suc k == 1) ≡ false
not_one k = ne_eqb (10 ^ suc k) 1 (λ e. (let p = pow-suc 10 k in let some = power_some k in omega arith))

-- ---- the value of digits
joined : (n d t v s x y : ℕ) → s ≡ t * 10 → x ≡ (n * 10 + d) * t + v → y ≡ (0 * 10 + d) * t + v → x ≡ n * s + y
joined n d t v s x y e f g =
    let h : x ≡ n * (t * 10) + y = omega arith in
    h ∙ ap (λ k. n * k + y) (sym e)

digits_from : (n : ℕ) (cs : List ℕ) → digits_value_after 10 n cs ≡ n * 10 ^ length cs + digits_value_after 10 0 cs
digits_from n [] = omega arith
digits_from n (c ∷ cs) = joined n (digit_value c) (10 ^ length cs) (digits_value_after 10 0 cs) (10 ^ suc (length cs)) (digits_value_after 10 (n * 10 + digit_value c) cs) (digits_value_after 10 (0 * 10 + digit_value c) cs) (pow-suc 10 (length cs)) (digits_from (n * 10 + digit_value c) cs) (digits_from (0 * 10 + digit_value c) cs)

-- one digit more at the front
decimal_value_digit : (b : ℕ) (bs : List ℕ) → (b == 95) ≡ false → decimal_value (b ∷ bs) ≡ digit_value b * 10 ^ decimal_places bs + decimal_value bs
decimal_value_digit b bs h =
    let keep : without_underscores (b ∷ bs) ≡ b ∷ without_underscores bs = cond-true (not (b == 95)) (b ∷ without_underscores bs) (without_underscores bs) (ap not h) in
    let from = digits_from (0 * 10 + digit_value b) (without_underscores bs) in
    ap (digits_value 10) keep ∙ from ∙ (let e : (0 * 10 + digit_value b) * 10 ^ decimal_places bs + decimal_value bs ≡ digit_value b * 10 ^ decimal_places bs + decimal_value bs = omega arith in e)

decimal_places_digit : (b : ℕ) (bs : List ℕ) → (b == 95) ≡ false → decimal_places (b ∷ bs) ≡ suc (decimal_places bs)
decimal_places_digit b bs h = ap length (cond-true (not (b == 95)) (b ∷ without_underscores bs) (without_underscores bs) (ap not h))

decimal_value_underscore : (b : ℕ) (bs : List ℕ) → (b == 95) ≡ true → decimal_value (b ∷ bs) ≡ decimal_value bs
decimal_value_underscore b bs h = ap (digits_value 10) (cond-false (not (b == 95)) (b ∷ without_underscores bs) (without_underscores bs) (ap not h))

decimal_places_underscore : (b : ℕ) (bs : List ℕ) → (b == 95) ≡ true → decimal_places (b ∷ bs) ≡ decimal_places bs
decimal_places_underscore b bs h = ap length (cond-false (not (b == 95)) (b ∷ without_underscores bs) (without_underscores bs) (ap not h))

-- a linked byte is an underscore or a digit
data Byte (b : ℕ) : Type 0 where
  mark : (b == 95) ≡ true → Byte b
  one : (b == 95) ≡ false → digit b ≡ true → Byte b

byte_of : (b : ℕ) (bs : List ℕ) → (digit b || (b == 95 && begins_by digit bs)) ≡ true → Byte b
byte_of b bs h = elim (cases_Bool (b == 95)) [
  | inl yes' ↦ mark yes'
  | inr no' ↦ elim (or_cases (digit b) (b == 95 && begins_by digit bs) h) [
    | inl d ↦ one no' d
    | inr m ↦ no_truth (sym no' ∙ (and_parts (b == 95) (begins_by digit bs) m).0)
  ]
]

all_digits : (bs : List ℕ) → is_linked digit 95 bs ≡ true → AllDigits 10 (without_underscores bs)
all_digits [] h = tt
all_digits (b ∷ bs) h =
    let parts = and_parts (digit b || (b == 95 && begins_by digit bs)) (is_linked digit 95 bs) h in
    let more = all_digits bs parts.1 in
    elim (byte_of b bs parts.0) [
      | mark m ↦ subst (λ ds. AllDigits 10 ds) (sym (cond-false (not (b == 95)) (b ∷ without_underscores bs) (without_underscores bs) (ap not m))) more
      | one no' d ↦ subst (λ ds. AllDigits 10 ds) (sym (cond-true (not (b == 95)) (b ∷ without_underscores bs) (without_underscores bs) (ap not no'))) (ltb-true (digit_value b) 10 d, more)
    ]

decimal_value_below : (bs : List ℕ) → is_linked digit 95 bs ≡ true → decimal_value bs < 10 ^ decimal_places bs
decimal_value_below bs h = digits_value-lt 10 (without_underscores bs) (all_digits bs h)

-- ---- the steps
step_mark : (sum weight b : ℕ) → (b == 95) ≡ true → decimal_step sum weight b ≡ Some (sum, weight)
unfolding decimal_step
step_mark sum weight b h = rw h refl

step_zero : (sum b : ℕ) → (b == 95) ≡ false → digit b ≡ true → (b == 48) ≡ true → decimal_step sum 1 b ≡ Some (sum, 1)
unfolding decimal_step
step_zero sum b m d z = rw m (rw d (rw z refl))

step_none : (sum b : ℕ) → (b == 95) ≡ false → digit b ≡ true → (b == 48) ≡ false → decimal_step sum 1 b ≡ None
unfolding decimal_step
step_none sum b m d z = rw m (rw d (rw z refl))

step_digit : (sum j b : ℕ) → (b == 95) ≡ false → digit b ≡ true → decimal_step sum (10 ^ suc j) b ≡ Some (sum + digit_value b * 10 ^ j, 10 ^ j)
unfolding decimal_step
step_digit sum j b m d = rw m (rw d (rw (not_one j) (ap (λ w. Some (sum + digit_value b * w, w)) (tenth j))))

abbrev go_on : List ℕ → ℕ × ℕ → Option ℕ
go_on bs s = decimals_after s.0 s.1 bs

-- ---- after the tenth place all must be 0
zero_digit : (b : ℕ) → (b == 48) ≡ true → digit_value b ≡ 0
zero_digit b h = ap digit_value (eqb-true b 48 h)

digit_zero : (b : ℕ) → digit b ≡ true → digit_value b ≡ 0 → (b == 48) ≡ true
digit_zero b d z = grind (arith, nat_tests)

rest_zero : (bs : List ℕ) (sum d : ℕ) → is_linked digit 95 bs ≡ true → decimals_after sum 1 bs ≡ Some d → (sum ≡ d) × (decimal_value bs ≡ 0)
rest_zero [] sum d h e = (same_Some sum d e, refl)
rest_zero (b ∷ bs) sum d h e =
    let parts = and_parts (digit b || (b == 95 && begins_by digit bs)) (is_linked digit 95 bs) h in
    elim (byte_of b bs parts.0) [
      | mark m ↦
          let more = rest_zero bs sum d parts.1 (sym (ap (λ o. o >>= go_on bs) (step_mark sum 1 b m)) ∙ e) in
          (more.0, decimal_value_underscore b bs m ∙ more.1)
      | one no' dig ↦ elim (cases_Bool (b == 48)) [
        | inl z ↦
            let more = rest_zero bs sum d parts.1 (sym (ap (λ o. o >>= go_on bs) (step_zero sum b no' dig z)) ∙ e) in
            (more.0, decimal_value_digit b bs no' ∙ ap (λ x. x * 10 ^ decimal_places bs + decimal_value bs) (zero_digit b z) ∙ (let w = more.1 in let r : 0 * 10 ^ decimal_places bs + decimal_value bs ≡ 0 = omega arith in r))
        | inr nz ↦ absurd (none-some d (sym (ap (λ o. o >>= go_on bs) (step_none sum b no' dig nz)) ∙ e))
      ]
    ]

zero_rest : (bs : List ℕ) (sum : ℕ) → is_linked digit 95 bs ≡ true → decimal_value bs ≡ 0 → decimals_after sum 1 bs ≡ Some sum
zero_rest [] sum h w = refl
zero_rest (b ∷ bs) sum h w =
    let parts = and_parts (digit b || (b == 95 && begins_by digit bs)) (is_linked digit 95 bs) h in
    elim (byte_of b bs parts.0) [
      | mark m ↦ ap (λ o. o >>= go_on bs) (step_mark sum 1 b m) ∙ zero_rest bs sum parts.1 (sym (decimal_value_underscore b bs m) ∙ w)
      | one no' dig ↦
          let both = split (digit_value b) (10 ^ decimal_places bs) (decimal_value bs) (power_some (decimal_places bs)) (sym (decimal_value_digit b bs no') ∙ w) in
          ap (λ o. o >>= go_on bs) (step_zero sum b no' dig (digit_zero b dig both.0)) ∙ zero_rest bs sum parts.1 both.1
    ]
  where
    split : (d p v : ℕ) → 0 < p → d * p + v ≡ 0 → (d ≡ 0) × (v ≡ 0)
    split zero p v some e = (refl, omega arith)
    split (suc d) p v some e = absurd (omega arith)

-- ---- what is parsed is that multiple
turned : (d t x p v : ℕ) → x * p ≡ v * t → (d * t + x) * (p * 10) ≡ (d * p + v) * (t * 10)
turned d t x p v h = omega arith

pub decimals_sound : (bs : List ℕ) (j sum d : ℕ) → is_linked digit 95 bs ≡ true → decimals_after sum (10 ^ j) bs ≡ Some d → (x : ℕ) × (d ≡ sum + x) × (x * 10 ^ decimal_places bs ≡ decimal_value bs * 10 ^ j)
decimals_sound bs zero sum d h e = let z = rest_zero bs sum d h e in let same = z.0 in (0, omega arith, (let w = z.1 in let r : 0 * 10 ^ decimal_places bs ≡ decimal_value bs * 1 = omega arith in r))
decimals_sound [] (suc j) sum d h e = let same = same_Some sum d e in (0, omega arith, (let r : 0 * 1 ≡ 0 * 10 ^ suc j = omega arith in r))
decimals_sound (b ∷ bs) (suc j) sum d h e =
    let parts = and_parts (digit b || (b == 95 && begins_by digit bs)) (is_linked digit 95 bs) h in
    elim (byte_of b bs parts.0) [
      | mark m ↦
          let more = decimals_sound bs (suc j) sum d parts.1 (sym (ap (λ o. o >>= go_on bs) (step_mark sum (10 ^ suc j) b m)) ∙ e) in
          (more.0, more.1, ap (λ k. more.0 * 10 ^ k) (decimal_places_underscore b bs m) ∙ more.2 ∙ ap (λ w. w * 10 ^ suc j) (sym (decimal_value_underscore b bs m)))
      | one no' dig ↦
          let more = decimals_sound bs j (sum + digit_value b * 10 ^ j) d parts.1 (sym (ap (λ o. o >>= go_on bs) (step_digit sum j b no' dig)) ∙ e) in
          let same = more.1 in (
            digit_value b * 10 ^ j + more.0,
            omega arith,
            ap (λ k. (digit_value b * 10 ^ j + more.0) * 10 ^ k) (decimal_places_digit b bs no') ∙ ap (λ k. (digit_value b * 10 ^ j + more.0) * k) (pow-suc 10 (decimal_places bs)) ∙ turned (digit_value b) (10 ^ j) more.0 (10 ^ decimal_places bs) (decimal_value bs) more.2 ∙ ap (λ w. w * (10 ^ j * 10)) (sym (decimal_value_digit b bs no')) ∙ ap (λ k. decimal_value (b ∷ bs) * k) (sym (pow-suc 10 j)),
          )
    ]

-- ---- and every such multiple is parsed
-- 27 and a power of ten have no common divisor
pub no_common : (l y v : ℕ) → y * 10 ^ l ≡ 27 * v → (z : ℕ) × (v ≡ z * 10 ^ l)
no_common zero y v h = (v, omega arith)
no_common (suc l) y v h =
    let p = pow-suc 10 l in
    let t : y * (10 ^ l * 10) ≡ 27 * v = ap (λ k. y * k) (sym p) ∙ h in
    let w = one_less (y * 10 ^ l) v (let s : y * 10 ^ l * 10 ≡ 27 * v = omega arith in s) in
    let more = no_common l y w.0 (let u = w.2 in u) in
    let first = w.1 in
    let rest = more.1 in
    (more.0, ten_times v w.0 more.0 (10 ^ l) (10 ^ suc l) first rest p)
  where
    one_less : (a n : ℕ) → a * 10 ≡ 27 * n → (w : ℕ) × (n ≡ 10 * w) × (a ≡ 27 * w)
    one_less a n e = (3 * a - 8 * n, omega arith, omega arith)

    ten_times : (n w z t s : ℕ) → n ≡ 10 * w → w ≡ z * t → s ≡ t * 10 → n ≡ z * s
    ten_times n w z t s e f g = (let r : n ≡ z * (t * 10) = omega arith in r) ∙ ap (λ k. z * k) (sym g)

less_of : (a b p : ℕ) → 0 < p → a * p ≤ b * p → a ≤ b
less_of a b p some h = le_of_mul-le-mul_right h some

parted : (b c q r : ℕ) → (b + c) * q ≡ b * q + r → c * q ≡ r
parted b c q r e = omega arith

-- the rest after a first digit
rest_of : (y d t p v : ℕ) → 0 < p → y * (p * 10) ≡ 27 * (d * p + v) * (t * 10) → (z : ℕ) × (z * p ≡ 27 * v * t)
rest_of y d t p v some h =
    let one : y * p ≡ 27 * d * t * p + 27 * v * t = omega arith in
    let least : 27 * d * t ≤ y = less_of (27 * d * t) y p some (omega arith) in
    (y - 27 * d * t, taken y (27 * d * t) p (27 * v * t) least one)
  where
    taken : (a b q r : ℕ) → b ≤ a → a * q ≡ b * q + r → (a - b) * q ≡ r
    taken a b q r le e =
        let whole : a ≡ b + (a - b) = omega arith in
        let f : (b + (a - b)) * q ≡ b * q + r = ap (λ k. k * q) (sym whole) ∙ e in
        parted b (a - b) q r f

pub decimals_complete : (bs : List ℕ) (j sum y : ℕ) → is_linked digit 95 bs ≡ true → y * 10 ^ decimal_places bs ≡ 27 * decimal_value bs * 10 ^ j → (d : ℕ) × (decimals_after sum (10 ^ j) bs ≡ Some d)
decimals_complete bs zero sum y h e =
    let whole = no_common (decimal_places bs) y (decimal_value bs) (let r : y * 10 ^ decimal_places bs ≡ 27 * decimal_value bs = omega arith in r) in
    let below = decimal_value_below bs h in
    (sum, zero_rest bs sum h (none_below whole.0 (decimal_value bs) (10 ^ decimal_places bs) whole.1 below))
  where
    none_below : (z v p : ℕ) → v ≡ z * p → v < p → v ≡ 0
    none_below zero v p e l = omega arith
    none_below (suc z) v p e l = absurd (omega arith)
decimals_complete [] (suc j) sum y h e = (sum, refl)
decimals_complete (b ∷ bs) (suc j) sum y h e =
    let parts = and_parts (digit b || (b == 95 && begins_by digit bs)) (is_linked digit 95 bs) h in
    elim (byte_of b bs parts.0) [
      | mark m ↦
          let more = decimals_complete bs (suc j) sum y parts.1 (ap (λ k. y * 10 ^ k) (sym (decimal_places_underscore b bs m)) ∙ e ∙ ap (λ w. 27 * w * 10 ^ suc j) (decimal_value_underscore b bs m)) in
          (more.0, ap (λ o. o >>= go_on bs) (step_mark sum (10 ^ suc j) b m) ∙ more.1)
      | one no' dig ↦
          let turned' : y * (10 ^ decimal_places bs * 10) ≡ 27 * (digit_value b * 10 ^ decimal_places bs + decimal_value bs) * (10 ^ j * 10) = ap (λ k. y * k) (sym (pow-suc 10 (decimal_places bs))) ∙ ap (λ k. y * 10 ^ k) (sym (decimal_places_digit b bs no')) ∙ e ∙ ap (λ w. 27 * w * 10 ^ suc j) (decimal_value_digit b bs no') ∙ ap (λ k. 27 * (digit_value b * 10 ^ decimal_places bs + decimal_value bs) * k) (pow-suc 10 j) in
          let rest = rest_of y (digit_value b) (10 ^ j) (10 ^ decimal_places bs) (decimal_value bs) (power_some (decimal_places bs)) turned' in
          let more = decimals_complete bs j (sum + digit_value b * 10 ^ j) rest.0 parts.1 rest.1 in
          (more.0, ap (λ o. o >>= go_on bs) (step_digit sum j b no' dig) ∙ more.1)
    ]
