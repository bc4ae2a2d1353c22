use Rattle.std.proofs.Common.{◌≡◌, ℕ, ◌-◌, ◌*◌, ◌%◌, ◌<◌, ◌^◌, bit_and, arith, ap, sym, ◌∙◌}
use Rattle.std.proofs.Math.Nat.{mod-eq_of_lt}
use Rattle.std.proofs.Math.Pow.{pow-lt}
use Rattle.std.proofs.lemmas.Nat.{mod_below, and_mask}
use Rattle.st_operators.proofs.words.rest.Goals as goal

-- the last bits are the rest of a division by a power of two
last_bits : (x y power by : ℕ) → power ≡ (1 * 2 ^ (by % 64)) % 2 ^ 64 → power ≡ y → bit_and x (y - 1) ≡ x % y
last_bits x y power by made same =
    let k = by % 64 in
    let small : 2 ^ k < 2 ^ 64 = pow-lt (mod_below by 64 (omega arith)) in
    let one : 2 ^ k ≡ 1 * 2 ^ k = omega arith in
    let is : 2 ^ k ≡ y = sym (mod-eq_of_lt small) ∙ ap (λ n. n % 2 ^ 64) one ∙ sym made ∙ same in
    ap (λ n. bit_and x (n - 1)) (sym is) ∙ and_mask x k ∙ ap (λ n. x % n) is

pub returns-then-power-y : goal.returns-then-power-y
returns-then-power-y c = last_bits c.args.x c.args.y _ _ c.wrapping_shl-power.ensures c.if-power-y.true
