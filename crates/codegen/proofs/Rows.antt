-- The first slot of a row.
use Rattle.std.proofs.Common.{◌≡◌, subst, ℕ, suc, ◌+◌, Bool, true, [], ◌++◌, arith}
use Rattle.std.specs.Prelude.{◌-ℤ◌, nat_abs}
use Rattle.std.specs.List.{list_all, range_with_len}
use Rattle.std.proofs.lemmas.Bool.{and_parts}
use Rattle.plant_types.specs.declared.values.Bounds.{Bounds}
use Rattle.plant_types.specs.Values.{row_length}
use Rattle.codegen.specs.Within.{has_row}

first_by : (test : ℕ → Bool) (n k a : ℕ) → k ≡ suc n → list_all test (range_with_len a k ++ []) ≡ true → test a ≡ true
first_by test n k a is h = (and_parts (test a) (list_all test (range_with_len (a + 1) n ++ [])) (subst (λ k. list_all test (range_with_len a k ++ []) ≡ true) is h)).0

-- what is so of each slot of a row is so of the first one
pub row_first : (test : ℕ → Bool) (first : ℕ) (bounds : Bounds) → has_row test first bounds ≡ true → test first ≡ true
row_first test first bounds h = first_by test (nat_abs (bounds.high -ℤ bounds.low)) (row_length bounds) first (omega arith) h
