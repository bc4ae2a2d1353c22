-- The numbers that a console may have.
use Rattle.std.proofs.Common.{◌≡◌, refl, zero, suc, ◌≤◌, ◌<◌, ℤ, pos, negsuc, ◌≤ℤ◌, ◌<ℤ◌, nat_le, true, false, Some, None, unsigned_abs, le-leb, arith}
use Rattle.std.proofs.lemmas.Bool.Decides.{nat_tests}
use Rattle.std.proofs.lemmas.Int.{ints}
use Rattle.plant_file.specs.PlantFiles.{console_number}

pub too_low : (z : ℤ) → z <ℤ pos 1 → None ≡ console_number z
too_low (pos zero) h = refl
too_low (pos (suc n)) h = absurd (omega (arith, ints))
too_low (negsuc n) h = refl

pub too_high : (z : ℤ) → pos 999_999_999 <ℤ z → None ≡ console_number z
too_high (pos n) h =
    let above : 999_999_999 < n = omega (arith, ints) in
    let no : nat_le n 999_999_999 ≡ false = grind (arith, nat_tests, above) in
    let low : nat_le 1 n ≡ true = grind (arith, nat_tests, above) in
    rw (low, no) refl
too_high (negsuc n) h = absurd (omega (arith, ints))

pub allowed : (z : ℤ) → pos 1 ≤ℤ z → z ≤ℤ pos 999_999_999 → Some (unsigned_abs z) ≡ console_number z
allowed (pos n) h k =
    let above : 1 ≤ n = omega (arith, ints) in
    let below : n ≤ 999_999_999 = omega (arith, ints) in
    rw (le-leb 1 n above, le-leb n 999_999_999 below) refl
allowed (negsuc n) h k = absurd (omega (arith, ints))
