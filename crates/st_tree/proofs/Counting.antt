-- The control values of a loop, one after another.
use Rattle.std.specs.Prelude.{int_lt, nat_abs, true, false, if◌then◌else◌}
use Rattle.std.proofs.Common.{length, ◌≡◌, ℕ, zero, suc, ℤ, pos, negsuc, ◌+◌, ◌/◌, ◌<◌, ◌+ℤ◌, ◌-ℤ◌, ◌<ℤ◌, ◌≤ℤ◌, [], ◌∷◌, ap, refl, sym, ◌∙◌, arith}
use Rattle.std.proofs.lemmas.Int.{ints}
use Rattle.std.proofs.Math.Nat.{add-div_right, div-eq_of_lt}
use Rattle.st_tree.specs.Controls.{count_in, up, down, values_from, control_values}
use Rattle.st_tree.specs.declared.controls.Span.{Span}
use Rattle.st_tree.specs.Meaning.{turns, Ran, Done, then_run}

pub count_none : (d : ℤ) (s : ℕ) → d <ℤ pos 0 → count_in d s ≡ 0
count_none (pos n) s h = absurd (omega (arith, ints))
count_none (negsuc n) s h = refl

few : (n s : ℕ) → n < s → n / s ≡ 0
few n s h = div-eq_of_lt h

-- a distance that is longer by a step has one turn more
pub count_more : (d e : ℤ) (s : ℕ) → 0 < s → pos 0 ≤ℤ d → e ≡ d -ℤ pos s → count_in d s ≡ suc (count_in e s)
count_more (negsuc n) e s h k is = absurd (omega (arith, ints))
count_more (pos n) (pos m) s h k is =
    let split : n ≡ m + s = omega (arith, ints) in
    let one : (m + s) / s ≡ m / s + 1 = add-div_right m h in
    let whole : n / s ≡ m / s + 1 = ap (λ x. x / s) split ∙ one in
    omega arith
count_more (pos n) (negsuc m) s h k is =
    let none : n / s ≡ 0 = few n s (omega (arith, ints)) in
    omega arith

pub abs_pos : (z : ℤ) → pos 0 ≤ℤ z → pos (nat_abs z) ≡ z
abs_pos (pos n) h = refl
abs_pos (negsuc n) h = absurd (omega (arith, ints))

pub abs_neg : (z : ℤ) → z <ℤ pos 0 → (pos 0 -ℤ pos (nat_abs z)) ≡ z
abs_neg (pos n) h = absurd (omega (arith, ints))
abs_neg (negsuc n) h = omega (arith, ints)

module _ (at to step next : ℤ) where
  -- the number of turns that are left falls by one
  pub count_up : pos 0 <ℤ step → at ≤ℤ to → next ≡ at +ℤ step → count_in (to -ℤ at) (nat_abs step) ≡ suc (count_in (to -ℤ next) (nat_abs step))
  count_up h k is = let s = abs_pos step (omega (arith, ints)) in count_more (to -ℤ at) (to -ℤ next) (nat_abs step) (omega (arith, ints)) (omega (arith, ints)) (omega (arith, ints))

  pub count_down : step <ℤ pos 0 → to ≤ℤ at → next ≡ at +ℤ step → count_in (at -ℤ to) (nat_abs step) ≡ suc (count_in (next -ℤ to) (nat_abs step))
  count_down h k is = let s = abs_neg step h in count_more (at -ℤ to) (next -ℤ to) (nat_abs step) (omega (arith, ints)) (omega (arith, ints)) (omega (arith, ints))

  pub falls_up : pos 0 <ℤ step → at ≤ℤ to → next ≡ at +ℤ step → count_in (to -ℤ next) (nat_abs step) < count_in (to -ℤ at) (nat_abs step)
  falls_up h k is = let e = count_up h k is in omega arith

  pub falls_down : step <ℤ pos 0 → to ≤ℤ at → next ≡ at +ℤ step → count_in (next -ℤ to) (nat_abs step) < count_in (at -ℤ to) (nat_abs step)
  falls_down h k is = let e = count_down h k is in omega arith

  -- the first control value, and those from the next one on
  pub up_more : pos 0 <ℤ step → at ≤ℤ to → next ≡ at +ℤ step → up at to step ≡ at ∷ up next to step
  up_more h k is = ap (λ c. values_from c at step) (count_up h k is) ∙ ap (λ z. at ∷ values_from (count_in (to -ℤ next) (nat_abs step)) z step) (sym is)

  pub down_more : step <ℤ pos 0 → to ≤ℤ at → next ≡ at +ℤ step → down at to step ≡ at ∷ down next to step
  down_more h k is = ap (λ c. values_from c at step) (count_down h k is) ∙ ap (λ z. at ∷ values_from (count_in (next -ℤ to) (nat_abs step)) z step) (sym is)

module _ (at to step : ℤ) where
  pub up_none : to <ℤ at → up at to step ≡ []
  up_none h = ap (λ c. values_from c at step) (count_none (to -ℤ at) (nat_abs step) (omega (arith, ints)))

  pub down_none : at <ℤ to → down at to step ≡ []
  down_none h = ap (λ c. values_from c at step) (count_none (at -ℤ to) (nat_abs step) (omega (arith, ints)))

-- a turn, and those after it; no turn
module _ {W : Type 0} (set : W → ℤ → W) (body : W → Ran W) (at to step : ℤ) where
  pub up_turn : (next : ℤ) (w : W) → pos 0 <ℤ step → at ≤ℤ to → next ≡ at +ℤ step → turns set body (up at to step) w ≡ then_run (body (set w at)) (turns set body (up next to step))
  up_turn next w h k is = ap (λ ns. turns set body ns w) (up_more at to step next h k is)

  pub down_turn : (next : ℤ) (w : W) → step <ℤ pos 0 → to ≤ℤ at → next ≡ at +ℤ step → turns set body (down at to step) w ≡ then_run (body (set w at)) (turns set body (down next to step))
  down_turn next w h k is = ap (λ ns. turns set body ns w) (down_more at to step next h k is)

  pub up_over : (w : W) → to <ℤ at → turns set body (up at to step) w ≡ Done w
  up_over w h = ap (λ ns. turns set body ns w) (up_none at to step h)

  pub down_over : (w : W) → at <ℤ to → turns set body (down at to step) w ≡ Done w
  down_over w h = ap (λ ns. turns set body ns w) (down_none at to step h)

-- The same from within a loop, after the body ran: ran is what the body did. The invariant comes first, since it has the numbers.
module _ {W : Type 0} (set : W → ℤ → W) (body : W → Ran W) (at to step next : ℤ) (w : W) (ran start : Ran W) where
  pub up_on : turns set body (up at to step) w ≡ start → pos 0 <ℤ step → at ≤ℤ to → next ≡ at +ℤ step → body (set w at) ≡ ran → then_run ran (turns set body (up next to step)) ≡ start
  up_on inv h k is did = ap (λ r. then_run r (turns set body (up next to step))) (sym did) ∙ sym (up_turn set body at to step next w h k is) ∙ inv

  pub down_on : turns set body (down at to step) w ≡ start → step <ℤ pos 0 → to ≤ℤ at → next ≡ at +ℤ step → body (set w at) ≡ ran → then_run ran (turns set body (down next to step)) ≡ start
  down_on inv h k is did = ap (λ r. then_run r (turns set body (down next to step))) (sym did) ∙ sym (down_turn set body at to step next w h k is) ∙ inv

-- how many control values there are
length_values : (n : ℕ) (at step : ℤ) → length (values_from n at step) ≡ n
length_values zero at step = refl
length_values (suc n) at step = let e = length_values n (at +ℤ step) step in omega arith

module _ (span : Span) (way : ℤ) (s n : ℕ) where
  pub turns_up : int_lt (pos 0) span.step ≡ true → way ≡ span.to -ℤ span.from → s ≡ nat_abs span.step → n ≡ count_in way s → n ≡ length (control_values span)
  turns_up test w a e =
      e ∙ (λ i. count_in (w i) (a i)) ∙ sym (length_values (count_in (span.to -ℤ span.from) (nat_abs span.step)) span.from span.step)
      ∙ ap (λ b. length (if b then up span.from span.to span.step else if int_lt span.step (pos 0) then down span.from span.to span.step else [])) (sym test)

  pub turns_down : int_lt (pos 0) span.step ≡ false → int_lt span.step (pos 0) ≡ true → way ≡ span.from -ℤ span.to → s ≡ nat_abs span.step → n ≡ count_in way s → n ≡ length (control_values span)
  turns_down first test w a e =
      e ∙ (λ i. count_in (w i) (a i)) ∙ sym (length_values (count_in (span.from -ℤ span.to) (nat_abs span.step)) span.from span.step)
      ∙ (λ i. length (if sym first i then up span.from span.to span.step else if sym test i then down span.from span.to span.step else []))
