use Rattle.std.proofs.Common.{arith}
use Rattle.std.proofs.lemmas.Grind.{common_steps}
use Rattle.alarm_bank.proofs.annunciator.Annunciator.scan.Goals as goal

pub returns : goal.returns
returns c = grind (arith, common_steps)

pub loop-at-preserved : goal.loop-at-preserved
loop-at-preserved c = grind (arith, common_steps)

pub bounds-sups-at-then-not-rests : goal.bounds-sups-at-then-not-rests
bounds-sups-at-then-not-rests c = grind (arith, common_steps)

pub bounds-sups-at : goal.bounds-sups-at
bounds-sups-at c = grind (arith, common_steps)

pub put-requires : goal.put-requires
put-requires c = grind (arith, common_steps)
