-- Quotients and remainders of words.
use Rattle.std.proofs.Common.{◌≡◌, ℕ, zero, suc, ◌≤◌, ◌/◌, ◌^◌, ℤ, pos, negsuc, ◌+ℤ◌, ◌-ℤ◌, ◌*ℤ◌, neg_ℤ, FitsSigned, to_z, of_z, w64, arith, refl, sym, ap, ◌∙◌}
use Rattle.std.specs.Int.{w128}
use Rattle.std.specs.Prelude.{int_div, int_rem, Bool, true, false, if◌then◌else◌, Err}
use Rattle.std.specs.Bool.{Decides}
use Rattle.std.specs.Ordering.{int_eq}
use Rattle.std.proofs.lemmas.Bool.Decides.{Decides-int_eq}
use Rattle.plant_types.specs.declared.values.Trap.TheVariants.{DivZero}
use Rattle.std.proofs.Math.Nat.{div-le_self}
use Rattle.std.proofs.lemmas.Int.{ints, quot_is, quot-rem, to_z-of_z}
use Rattle.st_tree.specs.Operators.{dint, quotient, remainder}

off : (b : Bool) (P : Type 0) → Decides b P → (P → ⊥) → b ≡ false
off true P d h = absurd (h (d.0 refl))
off false P d h = refl

quotient_by : (x y : ℤ) → (y ≡ pos 0 → ⊥) → quotient x y ≡ dint (int_div x y)
quotient_by x y h = ap (λ b. if b then Err DivZero else dint (int_div x y)) (off (int_eq y (pos 0)) (y ≡ pos 0) (Decides-int_eq y (pos 0)) h)

remainder_by : (x y : ℤ) → (y ≡ pos 0 → ⊥) → remainder x y ≡ x -ℤ (int_div x y *ℤ y)
remainder_by x y h = ap (λ b. if b then pos 0 else x -ℤ (int_div x y *ℤ y)) (off (int_eq y (pos 0)) (y ≡ pos 0) (Decides-int_eq y (pos 0)) h)

fits_wide : (z : ℤ) → FitsSigned w64 z → FitsSigned w128 z
fits_wide z f = record { sfits = omega (arith, f.sfits) }

fits_under : (n : ℕ) → n ≤ 2 ^ 63 → FitsSigned w128 (neg_ℤ (pos n))
fits_under zero h = record { sfits = omega arith }
fits_under (suc n) h = record { sfits = omega arith }

fits_quotient : (x y : ℤ) → FitsSigned w64 x → FitsSigned w128 (int_div x y)
fits_quotient (pos a) (pos b) f = record { sfits = omega (arith, div-le_self a b, f.sfits) }
fits_quotient (pos a) (negsuc b) f = fits_under (a / suc b) (omega (arith, div-le_self a (suc b), f.sfits))
fits_quotient (negsuc a) (pos b) f = fits_under (suc a / b) (omega (arith, div-le_self (suc a) b, f.sfits))
fits_quotient (negsuc a) (negsuc b) f = record { sfits = omega (arith, div-le_self (suc a) (suc b), f.sfits) }

module _ (x y : ℤ) (fx : FitsSigned w64 x) (fy : FitsSigned w64 y) (some : of_z w64 y ≡ 0 → ⊥) where
  pub quotient_is : (a b : ℤ) → a ≡ to_z w64 (of_z w64 x) → b ≡ to_z w64 (of_z w64 y) → dint (to_z w128 (of_z w128 (int_div (to_z w128 (of_z w128 a)) (to_z w128 (of_z w128 b))))) ≡ quotient x y
  quotient_is a b e f =
      ap (λ z. dint (to_z w128 (of_z w128 (int_div (to_z w128 (of_z w128 z)) (to_z w128 (of_z w128 b)))))) (e ∙ to_z-of_z w64 x fx)
      ∙ ap (λ z. dint (to_z w128 (of_z w128 (int_div (to_z w128 (of_z w128 x)) (to_z w128 (of_z w128 z)))))) (f ∙ to_z-of_z w64 y fy)
      ∙ ap dint (quot_is w128 x y (fits_wide x fx) (fits_wide y fy) (fits_quotient x y fx))
      ∙ sym (quotient_by x y (λ e. some (ap (of_z w64) e)))

  pub remainder_is : (r : ℤ) → FitsSigned w64 r → r ≡ int_rem (to_z w64 (of_z w64 x)) (to_z w64 (of_z w64 y)) → to_z w64 (of_z w64 r) ≡ remainder x y
  remainder_is r fr e =
      let quick : int_rem (to_z w64 (of_z w64 x)) (to_z w64 (of_z w64 y)) ≡ int_rem x y = ap (λ z. int_rem z (to_z w64 (of_z w64 y))) (to_z-of_z w64 x fx) ∙ ap (int_rem x) (to_z-of_z w64 y fy) in
      let whole : int_div x y *ℤ y +ℤ int_rem x y ≡ x = quot-rem x y in
      let rest : int_rem x y ≡ x -ℤ (int_div x y *ℤ y) = omega (arith, ints) in
      to_z-of_z w64 r fr ∙ e ∙ quick ∙ rest ∙ sym (remainder_by x y (λ e. some (ap (of_z w64) e)))
