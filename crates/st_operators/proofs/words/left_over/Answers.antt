use Rattle.std.proofs.Common.{rules, refl, ◌≡◌, ◌<◌, ◌≤◌, ◌+◌, ◌-◌, ◌*◌, ◌/◌, ◌%◌, ℕ, arith, ap, sym, ◌∙◌, subst}
use Rattle.std.proofs.lemmas.Nat.{mul-le, mul-lt, mod-mul-add}
use Rattle.st_operators.proofs.words.left_over.Goals as goal

-- a number is what a multiple takes of it and what is left, where that is small
parts : (x m k rest : ℕ) → x < 4294967296 → k < 4294967296 → m ≤ 18446744065119617025 → rest ≡ (x + (18446744073709551616 - m)) % 18446744073709551616 → rest < k → x ≡ m + rest
parts x m k rest small short most is below = omega (arith, is)

-- what is left beside a multiple of a divisor is the rest of the division, where it is below the divisor
left : (x q k rest : ℕ) → x < 4294967296 → k < 4294967296 → q * k ≤ 18446744065119617025 → rest ≡ (x + (18446744073709551616 - q * k)) % 18446744073709551616 → rest < k → rest ≡ x % k
left x q k rest small short most is below = sym (mod-mul-add q k rest below) ∙ ap (λ n. n % k) (sym (parts x (q * k) k rest small short most is below))

pub returns : goal.returns
returns c below =
    let x = c.args.x in
    let factor = c.from.result in
    let k = c.from-2.result in
    let quotient = x * factor / 4294967296 in
    let same : k ≡ c.args.by = search rules in
    let also : factor ≡ c.args.factor = search rules in
    let small : x < 4294967296 = omega (arith, c.requires) in
    let short : k < 4294967296 = omega (arith, same, c.ranges.by.fits) in
    let fits : factor < 4294967296 = omega (arith, also, c.ranges.factor.fits) in
    let whole : x * factor < 4294967296 * 4294967296 = mul-lt x factor 4294967296 4294967296 small fits in
    let low : quotient ≤ 4294967295 = omega (arith, whole) in
    let most : quotient * k ≤ 4294967295 * 4294967295 = mul-le quotient k 4294967295 4294967295 low (omega (arith, short)) in
    let rest = (x + (18446744073709551616 - quotient * k)) % 18446744073709551616 in
    subst (λ n. rest < n → rest ≡ x % n) same (left x quotient k rest small short (omega (arith, most)) refl) below
