-- The control values of a FOR whose bounds are DINTs are DINTs.
use Rattle.std.proofs.Common.{◌≡◌, refl, ℕ, zero, suc, ℤ, pos, negsuc, ◌-ℤ◌, ◌+ℤ◌, ◌≤ℤ◌, ◌<ℤ◌, Bool, true, false, [], arith}
use Rattle.std.specs.Prelude.{if◌then◌else◌, int_lt, nat_abs}
use Rattle.std.specs.List.{AllByRecursion}
use Rattle.std.proofs.lemmas.Int.{ints, by_lt_z}
use Rattle.plant_types.specs.declared.values.Kind.TheVariants as kind
use Rattle.st_tree.specs.Controls.{count_in, up, down, values_from, control_values}
use Rattle.st_tree.specs.declared.controls.Span.{Span}
use Rattle.st_tree.proofs.Counting.{count_none, count_up, count_down}
use Rattle.st_tree.proofs.RangeLaws.{InRange}

up_in : (n : ℕ) (at to step : ℤ) → pos 0 <ℤ step → negsuc 2147483647 ≤ℤ at → to ≤ℤ pos 2147483647 → count_in (to -ℤ at) (nat_abs step) ≡ n → AllByRecursion (InRange kind.Dint) (values_from n at step)
up_in zero at to step h low high is = tt
up_in (suc n) at to step h low high is =
    let here : at ≤ℤ to = by_lt_z to at (λ lt. let none = count_none (to -ℤ at) (nat_abs step) (omega (arith, ints)) in absurd (omega arith)) (λ le. le) in
    let more = count_up at to step (at +ℤ step) h here refl in
    let rest : count_in (to -ℤ (at +ℤ step)) (nat_abs step) ≡ n = omega arith in
    (grind (arith, ints, low, high, here), up_in n (at +ℤ step) to step h (omega (arith, ints)) high rest)

down_in : (n : ℕ) (at to step : ℤ) → step <ℤ pos 0 → at ≤ℤ pos 2147483647 → negsuc 2147483647 ≤ℤ to → count_in (at -ℤ to) (nat_abs step) ≡ n → AllByRecursion (InRange kind.Dint) (values_from n at step)
down_in zero at to step h high low is = tt
down_in (suc n) at to step h high low is =
    let here : to ≤ℤ at = by_lt_z at to (λ lt. let none = count_none (at -ℤ to) (nat_abs step) (omega (arith, ints)) in absurd (omega arith)) (λ le. le) in
    let more = count_down at to step (at +ℤ step) h here refl in
    let rest : count_in ((at +ℤ step) -ℤ to) (nat_abs step) ≡ n = omega arith in
    (grind (arith, ints, low, high, here), down_in n (at +ℤ step) to step h (omega (arith, ints)) low rest)

low_of : (n : ℤ) → InRange kind.Dint n → negsuc 2147483647 ≤ℤ n
low_of n h = grind (arith, ints, h)

high_of : (n : ℤ) → InRange kind.Dint n → n ≤ℤ pos 2147483647
high_of n h = grind (arith, ints, h)

by_sign : (b c : Bool) (span : Span) → int_lt (pos 0) span.step ≡ b → int_lt span.step (pos 0) ≡ c → InRange kind.Dint span.from → InRange kind.Dint span.to
    → AllByRecursion (InRange kind.Dint) (if b then up span.from span.to span.step else if c then down span.from span.to span.step else [])
by_sign true c span e f from to = up_in (count_in (span.to -ℤ span.from) (nat_abs span.step)) span.from span.to span.step (grind (arith, ints, e)) (low_of span.from from) (high_of span.to to) refl
by_sign false true span e f from to = down_in (count_in (span.from -ℤ span.to) (nat_abs span.step)) span.from span.to span.step (grind (arith, ints, f)) (high_of span.from from) (low_of span.to to) refl
by_sign false false span e f from to = tt

pub control_values_in_range : (span : Span) → InRange kind.Dint span.from → InRange kind.Dint span.to → AllByRecursion (InRange kind.Dint) (control_values span)
control_values_in_range span from to = by_sign (int_lt (pos 0) span.step) (int_lt span.step (pos 0)) span refl refl from to
