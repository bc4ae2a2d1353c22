use Rattle.st_blocks.proofs.LevelSteps.{judged_at}
use Rattle.st_blocks.proofs.holders.judge.Goals as goal

pub returns-in-Some : goal.returns-in-Some
returns-in-Some c = judged_at c.args.graph.now c.in_ok-order.field-0 c.in-Some.order c.in_ok-order.ensures c.in-Some.is
