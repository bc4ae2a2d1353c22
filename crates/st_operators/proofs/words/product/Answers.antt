use Rattle.std.proofs.Common.{◌≡◌, ℤ, pos, negsuc, ◌*ℤ◌, ◌≤ℤ◌, ◌≤◌, true, FitsSigned, w64, to_z, of_z, unsigned_abs, rules, arith, ap, ◌∙◌}
use Rattle.std.proofs.lemmas.Int.{ints, to_z-of_z, fits_signed_mul}
use Rattle.plant_types.specs.Values.{is_in_range}
use Rattle.plant_types.specs.declared.values.Kind.TheVariants as kind
use Rattle.st_tree.specs.Operators.{dint}
use Rattle.st_operators.proofs.words.product.Goals as goal

size : (x : ℤ) → negsuc 2147483647 ≤ℤ x → x ≤ℤ pos 2147483647 → unsigned_abs x ≤ 2147483648
size (pos n) low high = omega (arith, ints)
size (negsuc n) low high = omega (arith, ints)

-- the size of a number in the range of DINT
dint_size : (x : ℤ) → is_in_range kind.Dint x ≡ true → unsigned_abs x ≤ 2147483648
dint_size x h =
    let low : negsuc 2147483647 ≤ℤ x = grind (arith, ints) in
    let high : x ≤ℤ pos 2147483647 = grind (arith, ints) in
    size x low high

pub returns-then-is_dint-2 : goal.returns-then-is_dint-2
returns-then-is_dint-2 c =
    let x = c.args.x in
    let y = c.args.y in
    let one : is_in_range kind.Dint x ≡ true = search rules in
    let other : is_in_range kind.Dint y ≡ true = search rules in
    let first : to_z w64 (of_z w64 x) ≡ x = to_z-of_z w64 x c.ranges.x in
    let second : to_z w64 (of_z w64 y) ≡ y = to_z-of_z w64 y c.ranges.y in
    let fits : FitsSigned w64 (x *ℤ y) = fits_signed_mul w64 x y 2147483648 2147483648 (dint_size x one) (dint_size y other) (omega arith) in
    c.dint.ensures ∙ ap dint ((λ i. to_z w64 (of_z w64 (first i *ℤ second i))) ∙ to_z-of_z w64 (x *ℤ y) fits)
