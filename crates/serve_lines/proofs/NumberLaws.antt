-- One more digit.
use Rattle.std.proofs.Common.{◌≡◌, ℕ, true, List, sym, arith, length, take, get_or, ◌<◌, ◌≤◌, ◌+◌, ◌*◌, ◌-◌, ◌^◌}
use Rattle.std.proofs.lemmas.Int.Digits.{digits_value_more}
use Rattle.std.proofs.lemmas.Bool.Decides.{nat_tests}
use native.Mathlib.Nat.{pow-le-pow_right, pow-suc}
use Rattle.std.proofs.Common.{lit<, add-one}
use Rattle.std.specs.Char.{is_ascii_digit, digit_value}
use Rattle.std.specs.Str.Parse.{digits_value}

pub digit_worth : (b : ℕ) → is_ascii_digit b ≡ true → digit_value b ≡ b - 48
digit_worth b h = grind (arith, nat_tests)

pub digit_small : (b : ℕ) → is_ascii_digit b ≡ true → b - 48 < 10
digit_small b h = grind (arith, nat_tests)

pub next_value : (ds : List ℕ) (i n : ℕ) → i < length ds → is_ascii_digit (get_or ds i 0) ≡ true → n ≡ digits_value 10 (take i ds) → n * 10 + (get_or ds i 0 - 48) ≡ digits_value 10 (take (i + 1) ds)
next_value ds i n inside digit value =
    sym (rw (digits_value_more 10 ds i inside, digit_worth _ digit, value))

-- up to 19 digits fit
pub next_small : (n i d : ℕ) → n < 10 ^ i → d < 10 → n * 10 + d < 10 ^ (i + 1)
next_small n i d h k = let e : 10 ^ (i + 1) ≡ 10 ^ i * 10 = rw add-one (pow-suc 10 i) in omega arith

pub small_fits : (n i : ℕ) → n < 10 ^ i → i < 19 → n < 10 ^ 18
small_fits n i h k = let e : 10 ^ i ≤ 10 ^ 18 = pow-le-pow_right {n = 10} (lit< tt) {j = 18} (omega arith) in omega arith

pub small_within : (n i most : ℕ) → n < 10 ^ i → i ≤ most → n < 10 ^ most
small_within n i most h k = let e : 10 ^ i ≤ 10 ^ most = pow-le-pow_right {n = 10} (lit< tt) k in omega arith
