use Rattle.std.proofs.Common.{◌<◌, length, Contains, arith}
use Rattle.std.proofs.lemmas.Grind.{common_steps}
use Rattle.crew.proofs.Ticking.{stranger_next}
use Rattle.crew.proofs.ticks.all_known.Goals as goal

pub returns-then-is_none-clause-stranger : goal.returns-then-is_none-clause-stranger
returns-then-is_none-clause-stranger g c failed =
    let inside : c.loop-at.at < length c.args.got.now = omega (arith, c.loop-at-test.true) in
    let none : Contains c.args.starts.now (g.J.Work.ended_from c.index-got-at.result) → ⊥ = grind (arith, common_steps) in
    stranger_next g.J.Work.ended_from c.args.starts.now c.args.got.now c.loop-at.at c.index-got-at.result inside c.index-got-at.is none
