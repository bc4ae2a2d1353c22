use Rattle.std.proofs.Common.{◌≡◌, zero, suc, ◌+◌, ◌*◌, ◌/◌, ℤ, pos, negsuc, ◌-ℤ◌, ◌*ℤ◌, ◌≤ℤ◌, ◌<ℤ◌, to_z, of_z, w64, sym, arith, ap, ◌∙◌, refl, nat_abs, Bool, true, false, if◌then◌else◌}
use Rattle.std.specs.Prelude.{int_div}
use Rattle.std.specs.Bool.{Decides}
use Rattle.std.specs.Ordering.{int_eq}
use Rattle.std.proofs.lemmas.Bool.Decides.{Decides-int_eq}
use Rattle.std.proofs.lemmas.Int.{ints, to_z-of_z}
use Rattle.std.proofs.lemmas.Nat.{div-mul-add}
use Rattle.st_tree.specs.Operators.{remainder}
use Rattle.st_tree.proofs.Quotients.{remainder_is}
use Rattle.st_operators.proofs.words.remainder.Goals as goal

off : (b : Bool) (P : Type 0) → Decides b P → (P → ⊥) → b ≡ false
off true P d h = absurd (h (d.0 refl))
off false P d h = refl

-- a number from 0 on that is below the divisor is its own remainder
own : (x y : ℤ) → pos 0 ≤ℤ x → x <ℤ y → remainder x y ≡ x
own (pos a) (pos zero) h k = absurd (omega (arith, ints))
own (pos a) (pos (suc b)) h k =
    let only : 0 * suc b + a ≡ a = omega arith in
    let none : a / suc b ≡ 0 = ap (λ n. n / suc b) (sym only) ∙ div-mul-add 0 (suc b) a (omega (arith, ints)) in
    let whole : pos a -ℤ (pos 0 *ℤ pos (suc b)) ≡ pos a = omega (arith, ints) in
    let some : pos (suc b) ≡ pos 0 → ⊥ = λ e. (let size : suc b ≡ 0 = ap nat_abs e in omega arith) in
    ap (λ d. if d then pos 0 else pos a -ℤ (int_div (pos a) (pos (suc b)) *ℤ pos (suc b))) (off (int_eq (pos (suc b)) (pos 0)) (pos (suc b) ≡ pos 0) (Decides-int_eq (pos (suc b)) (pos 0)) some)
    ∙ ap (λ q. pos a -ℤ (pos q *ℤ pos (suc b))) none ∙ whole
own (pos a) (negsuc b) h k = absurd (omega (arith, ints))
own (negsuc a) y h k = absurd (omega (arith, ints))

pub returns-then-x-y : goal.returns-then-x-y
returns-then-x-y c =
    let first : to_z w64 (of_z w64 c.args.x) ≡ c.args.x = to_z-of_z w64 c.args.x c.ranges.x in
    let second : to_z w64 (of_z w64 c.args.y) ≡ c.args.y = to_z-of_z w64 c.args.y c.ranges.y in
    first ∙ sym (own c.args.x c.args.y (omega (arith, ints, first, c.if-x-ge0.true)) (omega (arith, ints, first, second, c.if-x-y.true)))

pub returns-else-x-ge0 : goal.returns-else-x-ge0
returns-else-x-ge0 c = remainder_is c.args.x c.args.y c.ranges.x c.ranges.y c.if-y-eq0.false c.wrapping_rem.result (record { sfits = omega (arith, c.wrapping_rem.type_inv) }) c.wrapping_rem.ensures
