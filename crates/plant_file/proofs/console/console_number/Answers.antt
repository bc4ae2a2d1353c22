use Rattle.std.proofs.Common.{◌∙◌, ap, Some, FitsSigned, w64, unsigned_abs, arith, pos, ◌<ℤ◌, ◌≤ℤ◌}
use Rattle.std.proofs.lemmas.Int.{ints, to_z-of_z}
use Rattle.plant_file.proofs.Numbers.{too_low, too_high, allowed}
use Rattle.plant_file.proofs.console.console_number.Goals as goal

pub returns-then-number-lt1 : goal.returns-then-number-lt1
returns-then-number-lt1 c =
    let f : FitsSigned w64 c.args.number = c.ranges.number in
    let low : c.args.number <ℤ pos 1 = grind (arith, ints, c.if-number-lt1.true) in
    too_low c.args.number low

pub returns-then-number-gt999999999 : goal.returns-then-number-gt999999999
returns-then-number-gt999999999 c =
    let f : FitsSigned w64 c.args.number = c.ranges.number in
    let high : pos 999_999_999 <ℤ c.args.number = grind (arith, ints, c.if-number-gt999999999.true) in
    too_high c.args.number high

pub returns : goal.returns
returns c =
    let f : FitsSigned w64 c.args.number = c.ranges.number in
    let low : pos 1 ≤ℤ c.args.number = grind (arith, ints, c.if-number-lt1.false) in
    let high : c.args.number ≤ℤ pos 999_999_999 = grind (arith, ints, c.if-number-gt999999999.false) in
    ap (λ z. Some (unsigned_abs z)) (to_z-of_z w64 c.args.number f) ∙ allowed c.args.number low high
