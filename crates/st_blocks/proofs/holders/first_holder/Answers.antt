use Rattle.std.proofs.Common.{arith}
use Rattle.std.proofs.lemmas.Bool.{both_ways}
use Rattle.st_blocks.proofs.LevelSteps.{none_more}
use Rattle.st_blocks.proofs.holders.first_holder.Goals as goal

pub loop-a-preserved : goal.loop-a-preserved
loop-a-preserved c = none_more c.args.graph.now c.loop-a.a c.loop-a.invariant (λ holds. both_ways c.in_ok-holds_itself.field-0 c.if-branch.false (c.in_ok-holds_itself.ensures.1 holds))

pub returns : goal.returns
returns c = λ b within. c.loop-a.invariant b (omega (arith, within, c.loop-a-test.false))
