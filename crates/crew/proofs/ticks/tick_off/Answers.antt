use Rattle.std.proofs.Common.{rules, ◌≡◌, ◌<◌, length, Contains, slice_index_or, true, false, inl, inr, arith}
use Rattle.std.proofs.lemmas.Grind.{common_steps}
use Rattle.crew.proofs.Ticking.{stranger_next, double_next, tick_next}
use Rattle.crew.proofs.ticks.tick_off.Goals as goal

pub returns-in_default-clause-misfit : goal.returns-in_default-clause-misfit
returns-in_default-clause-misfit g c failed =
    let inside : c.loop-at.at < length c.args.got.now = omega (arith, c.loop-at-test.true) in
    let none : Contains c.args.starts.now (g.J.Work.ended_from c.index-got-at.result) → ⊥ = search rules in
    inl (stranger_next g.J.Work.ended_from c.args.starts.now c.args.got.now c.loop-at.at c.index-got-at.result inside c.index-got-at.is none)

pub returns-then-ticks-place-clause-misfit : goal.returns-then-ticks-place-clause-misfit
returns-then-ticks-place-clause-misfit g c failed =
    let inside : c.loop-at.at < length c.args.got.now = omega (arith, c.loop-at-test.true) in
    let on : slice_index_or c.loop-at.ticks c.in-Some.place false ≡ true = search rules in
    inr (double_next g.J.Work.ended_from c.args.starts.now c.args.got.now c.loop-at.at c.index-got-at.result c.loop-at.ticks c.in-Some.place c.loop-at.invariant inside c.index-got-at.is c.in-Some.ensures.0 c.in-Some.ensures.1 on)

pub loop-at-preserved : goal.loop-at-preserved
loop-at-preserved g c =
    let inside : c.loop-at.at < length c.args.got.now = omega (arith, c.loop-at-test.true) in
    let off : slice_index_or c.loop-at.ticks c.in-Some.place false ≡ false = search rules in
    tick_next g.J.Work.ended_from c.args.starts.now c.args.got.now c.loop-at.at c.index-got-at.result c.loop-at.ticks c.in-Some.place c.loop-at.invariant c.requires.distinct inside c.index-got-at.is c.in-Some.ensures.0 c.in-Some.ensures.1 off

pub returns-clause-ticked : goal.returns-clause-ticked
returns-clause-ticked g c = grind (arith, common_steps)

pub returns-then-ticks-place-clause-ticked : goal.returns-then-ticks-place-clause-ticked
returns-then-ticks-place-clause-ticked g c = grind (arith, common_steps)

pub returns-in_default-clause-ticked : goal.returns-in_default-clause-ticked
returns-in_default-clause-ticked g c = grind (arith, common_steps)
