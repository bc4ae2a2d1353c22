-- What a turn of a loop did.
use Rattle.std.proofs.Common.{◌≡◌, ℕ, ℤ, pos, negsuc, subst, ◌≤ℤ◌, FitsSigned, to_z, of_z, w64, arith, List, ap, sym, ◌∙◌}
use Rattle.std.proofs.lemmas.Int.{ints, to_z-of_z}
use Rattle.std.specs.Prelude.{Result}
use Rattle.st_tree.specs.Plain.{PlainBody}
use Rattle.st_tree.specs.Meaning.{Space, run_all, turns}
use Rattle.st_tree.specs.Controls.{up, down}
use Rattle.logic_cells.specs.declared.stop.Stop.{Stop}
use Rattle.logic_cells.specs.Cells.{PlainCells}
use Rattle.plant_types.specs.Values.{Path}
use Rattle.logic_cells.specs.Runs.{ended}

module _ (s : Space ℕ PlainCells) (paths : List Path) (slot : ℕ) (body : PlainBody ℕ) where
  pub ran_body : (at cast : ℤ) (w w1 w2 : PlainCells) (r q : Result (Unit {0}) Stop) → cast ≡ at → w1 ≡ s.put w slot cast → ended paths r w2 ≡ run_all s body w1 → r ≡ q → run_all s body (s.put w slot at) ≡ ended paths q w2
  ran_body at cast w w1 w2 r q e f g is = ap (λ n. run_all s body (s.put w slot n)) (sym e) ∙ ap (run_all s body) (sym f) ∙ sym g ∙ ap (λ x. ended paths x w2) is

  -- the same turns where the numbers are the same
  module _ (at at' to to' step step' : ℤ) (w : PlainCells) where
    pub up_same : at ≡ at' → to ≡ to' → step ≡ step' → turns (λ u n. s.put u slot n) (run_all s body) (up at to step) w ≡ turns (λ u n. s.put u slot n) (run_all s body) (up at' to' step') w
    up_same e f g = λ i. turns (λ u n. s.put u slot n) (run_all s body) (up (e i) (f i) (g i)) w

    pub down_same : at ≡ at' → to ≡ to' → step ≡ step' → turns (λ u n. s.put u slot n) (run_all s body) (down at to step) w ≡ turns (λ u n. s.put u slot n) (run_all s body) (down at' to' step') w
    down_same e f g = λ i. turns (λ u n. s.put u slot n) (run_all s body) (down (e i) (f i) (g i)) w

below_fits : (n : ℕ) (to : ℤ) → FitsSigned w64 to → pos n ≤ℤ to → FitsSigned w64 (pos n)
below_fits n (pos m) f h = record { sfits = omega (arith, ints, f.sfits) }
below_fits n (negsuc m) f h = absurd (omega (arith, ints))

above_fits : (n : ℕ) (from : ℤ) → FitsSigned w64 from → from ≤ℤ negsuc n → FitsSigned w64 (negsuc n)
above_fits n (pos m) f h = absurd (omega (arith, ints))
above_fits n (negsuc m) f h = record { sfits = omega (arith, ints, f.sfits) }

between : (at from to : ℤ) → FitsSigned w64 from → FitsSigned w64 to → from ≤ℤ at → at ≤ℤ to → FitsSigned w64 at
between (pos n) from to f g low high = below_fits n to g high
between (negsuc n) from to f g low high = above_fits n from f low

-- a number between two words is a word
pub between_fits : (at from to : ℤ) → FitsSigned w64 from → FitsSigned w64 to → to_z w64 (of_z w64 from) ≤ℤ at → at ≤ℤ to_z w64 (of_z w64 to) → to_z w64 (of_z w64 at) ≡ at
between_fits at from to f g low high =
    to_z-of_z w64 at (between at from to f g (subst (λ z. z ≤ℤ at) (to_z-of_z w64 from f) low) (subst (λ z. at ≤ℤ z) (to_z-of_z w64 to g) high))
