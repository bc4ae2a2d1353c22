use Rattle.std.proofs.Common.{◌≡◌, pos, ◌-ℤ◌, ap, sym, ◌∙◌, to_z, of_z, w64, arith}
use Rattle.std.specs.Int.{w128}
use Rattle.std.specs.Prelude.{int_lt, nat_abs}
use Rattle.std.proofs.lemmas.Int.{ints}
use Rattle.std.proofs.lemmas.Grind.{common_steps}
use Rattle.st_tree.proofs.Counting.{turns_up, turns_down}
use Rattle.st_tree.proofs.controls.count_turns.Goals as goal

pub returns-then-span-gt0 : goal.returns-then-span-gt0
returns-then-span-gt0 c =
    let step : c.args.span.step ≡ to_z w64 (of_z w64 c.args.span.step) = omega (arith, ints) in
    turns_up c.args.span (to_z w128 (of_z w128 (to_z w128 (of_z w128 c.from-to.result) -ℤ to_z w128 (of_z w128 c.from-from.result)))) c.unsigned_abs.result c.count_in.result
    (ap (int_lt (pos 0)) step ∙ c.if-span-gt0.true) (omega (arith, ints)) (c.unsigned_abs.ensures.value ∙ ap nat_abs (sym step)) c.count_in.ensures

pub returns-then-span-lt0 : goal.returns-then-span-lt0
returns-then-span-lt0 c =
    let step : c.args.span.step ≡ to_z w64 (of_z w64 c.args.span.step) = omega (arith, ints) in
    turns_down c.args.span (to_z w128 (of_z w128 (to_z w128 (of_z w128 c.from-from.result) -ℤ to_z w128 (of_z w128 c.from-to.result)))) c.unsigned_abs-then-span-lt0.result c.count_in-then-span-lt0.result
    (ap (int_lt (pos 0)) step ∙ c.if-span-gt0.false) (ap (λ z. int_lt z (pos 0)) step ∙ c.if-span-lt0.true) (omega (arith, ints)) (c.unsigned_abs-then-span-lt0.ensures.value ∙ ap nat_abs (sym step)) c.count_in-then-span-lt0.ensures

pub overflow_sub-from : goal.overflow_sub-from
overflow_sub-from c = grind (arith, common_steps)

pub overflow_sub-to : goal.overflow_sub-to
overflow_sub-to c = grind (arith, common_steps)

pub count_in-requires-then-span-lt0 : goal.count_in-requires-then-span-lt0
count_in-requires-then-span-lt0 c = grind (arith, common_steps)

pub returns-else-span-lt0 : goal.returns-else-span-lt0
returns-else-span-lt0 c = grind (arith, common_steps)

pub count_in-requires : goal.count_in-requires
count_in-requires c = grind (arith, common_steps)
