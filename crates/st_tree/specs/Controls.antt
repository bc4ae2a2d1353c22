-- The values of a control variable, in whole numbers without a range (IEC 61131-3).
use Rattle.std.specs.Prelude.{◌≡◌, ℕ, zero, suc, ℤ, pos, negsuc, ◌+ℤ◌, ◌-ℤ◌, ◌≤ℤ◌, ◌<ℤ◌, ◌+◌, ◌/◌, nat_abs, int_lt, List, [], ◌∷◌, if◌then◌else◌, Result, Ok, Err}
use Rattle.plant_types.specs.declared.values.Trap.{Trap}
use Rattle.st_tree.specs.declared.controls.Span.{Span}
use Rattle.st_tree.specs.Operators.{Outcome}

-- so many values, from the first one on, by a step
abbrev pub values_from : ℕ → ℤ → ℤ → List ℤ
values_from zero at step = []
values_from (suc n) at step = at ∷ values_from n (at +ℤ step) step

-- how many turns fit into a distance, the first at its start, by steps of a size; none where the distance is below 0
abbrev pub count_in : ℤ → ℕ → ℕ
count_in (pos n) step = n / step + 1
count_in (negsuc n) step = 0

-- the values by a step above 0: at most the bound
abbrev pub up : ℤ → ℤ → ℤ → List ℤ
up at to step = values_from (count_in (to -ℤ at) (nat_abs step)) at step

-- the values by a step below 0: at least the bound
abbrev pub down : ℤ → ℤ → ℤ → List ℤ
down at to step = values_from (count_in (at -ℤ to) (nat_abs step)) at step

-- the values of a control variable: from, from + step, .. as long as they are not past the bound; none by the step 0
abbrev pub control_values : Span → List ℤ
control_values span =
    if int_lt (pos 0) span.step then up span.from span.to span.step
    else if int_lt span.step (pos 0) then down span.from span.to span.step
    else []

-- a value is not past the bound: at most the bound by a step above 0, at least the bound by a step below 0
pub data NotPast (span : Span) (n : ℤ) : Type 0 where
  upward : pos 0 <ℤ span.step → n ≤ℤ span.to → NotPast span n
  downward : span.step <ℤ pos 0 → span.to ≤ℤ n → NotPast span n

-- the rule in its own words: the values are at, at + step, .. as long as they are not past the bound, in order, and no others
abbrev pub CountsToBound : Span → ℤ → List ℤ → Type 0
CountsToBound span at [] = NotPast span at → ⊥
CountsToBound span at (n ∷ rest) = (n ≡ at) × NotPast span at × CountsToBound span (at +ℤ span.step) rest

-- the span of bounds and a step that have outcomes; the first trap wins
abbrev pub span_of : Outcome → Outcome → Outcome → Result Span Trap
span_of (Ok from) (Ok to) (Ok step) = Ok (record { from = from; to = to; step = step })
span_of (Ok from) (Ok to) (Err trap) = Err trap
span_of (Ok from) (Err trap) step = Err trap
span_of (Err trap) to step = Err trap
