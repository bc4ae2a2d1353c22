-- The control values of a FOR are those of the rule in its own words.
use Rattle.std.specs.Prelude.{int_lt, nat_abs, true, false, Bool, T, if◌then◌else◌}
use Rattle.std.specs.Int.Signed.{lt_z_yes}
use Rattle.std.proofs.Common.{◌≡◌, ℕ, zero, suc, ℤ, pos, ◌+ℤ◌, ◌-ℤ◌, ◌≤ℤ◌, ◌<ℤ◌, List, [], ◌∷◌, refl, sym, ◌∙◌, subst, arith}
use Rattle.std.proofs.lemmas.Int.{ints, by_lt_z}
use Rattle.st_tree.specs.Controls.{count_in, values_from, up, down, control_values, NotPast, upward, downward, CountsToBound}
use Rattle.st_tree.specs.declared.controls.Span.{Span}
use Rattle.st_tree.proofs.Counting.{count_none, count_up, count_down}

below : (a b : ℤ) → int_lt a b ≡ true → a <ℤ b
below a b h = lt_z_yes (subst T (sym h) tt)

not_below : (a b : ℤ) → int_lt a b ≡ false → a <ℤ b → ⊥
not_below a b e h = subst T e h.lt

module _ (span : Span) where
  up_ends : pos 0 <ℤ span.step → (at : ℤ) → count_in (span.to -ℤ at) (nat_abs span.step) ≡ 0 → NotPast span at → ⊥
  up_ends h at is (upward i le) = absurd (let e = count_up at span.to span.step (at +ℤ span.step) h le refl in omega arith)
  up_ends h at is (downward i le) = absurd (omega (arith, ints))

  up_counts : pos 0 <ℤ span.step → (n : ℕ) (at : ℤ) → count_in (span.to -ℤ at) (nat_abs span.step) ≡ n → CountsToBound span at (values_from n at span.step)
  up_counts h zero at is = up_ends h at is
  up_counts h (suc n) at is =
      let within : at ≤ℤ span.to = by_lt_z span.to at (λ past. absurd (let e = count_none (span.to -ℤ at) (nat_abs span.step) (omega (arith, ints)) in omega arith)) (λ le. le) in
      let e = count_up at span.to span.step (at +ℤ span.step) h within refl in
      (refl, upward h within, up_counts h n (at +ℤ span.step) (omega arith))

  down_ends : span.step <ℤ pos 0 → (at : ℤ) → count_in (at -ℤ span.to) (nat_abs span.step) ≡ 0 → NotPast span at → ⊥
  down_ends h at is (upward i le) = absurd (omega (arith, ints))
  down_ends h at is (downward i le) = absurd (let e = count_down at span.to span.step (at +ℤ span.step) h le refl in omega arith)

  down_counts : span.step <ℤ pos 0 → (n : ℕ) (at : ℤ) → count_in (at -ℤ span.to) (nat_abs span.step) ≡ n → CountsToBound span at (values_from n at span.step)
  down_counts h zero at is = down_ends h at is
  down_counts h (suc n) at is =
      let within : span.to ≤ℤ at = by_lt_z at span.to (λ past. absurd (let e = count_none (at -ℤ span.to) (nat_abs span.step) (omega (arith, ints)) in omega arith)) (λ le. le) in
      let e = count_down at span.to span.step (at +ℤ span.step) h within refl in
      (refl, downward h within, down_counts h n (at +ℤ span.step) (omega arith))

  none_counts : int_lt (pos 0) span.step ≡ false → int_lt span.step (pos 0) ≡ false → NotPast span span.from → ⊥
  none_counts p q (upward h le) = not_below (pos 0) span.step p h
  none_counts p q (downward h le) = not_below span.step (pos 0) q h

  tested : (a b : Bool) → int_lt (pos 0) span.step ≡ a → int_lt span.step (pos 0) ≡ b
      → CountsToBound span span.from (if a then up span.from span.to span.step else if b then down span.from span.to span.step else [])
  tested true b p q = up_counts (below (pos 0) span.step p) (count_in (span.to -ℤ span.from) (nat_abs span.step)) span.from refl
  tested false true p q = down_counts (below span.step (pos 0) q) (count_in (span.from -ℤ span.to) (nat_abs span.step)) span.from refl
  tested false false p q = none_counts p q

  pub control_values_count : CountsToBound span span.from (control_values span)
  control_values_count = tested (int_lt (pos 0) span.step) (int_lt span.step (pos 0)) refl refl

  -- only one list counts to the bound
  one_list : (at : ℤ) (ns ms : List ℤ) → CountsToBound span at ns → CountsToBound span at ms → ns ≡ ms
  one_list at [] [] p q = refl
  one_list at [] (m ∷ ms) p q = absurd (let (is, here, more) = q in p here)
  one_list at (n ∷ ns) [] p q = absurd (let (is, here, more) = p in q here)
  one_list at (n ∷ ns) (m ∷ ms) p q =
      let (is, here, more) = p in
      let (is', here', more') = q in
      λ i. (is ∙ sym is') i ∷ one_list (at +ℤ span.step) ns ms more more' i

  pub only_control_values : (values : List ℤ) → CountsToBound span span.from values → values ≡ control_values span
  only_control_values values counts = one_list span.from values (control_values span) counts control_values_count
