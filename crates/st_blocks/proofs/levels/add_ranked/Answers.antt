use Rattle.st_blocks.specs.Ranks.{ranked}
use Rattle.std.proofs.Common.{◌++◌, arith}
use Rattle.std.proofs.lemmas.Grind.{common_steps}
use Rattle.st_blocks.proofs.LevelSteps.{ranked_on}
use Rattle.st_blocks.proofs.levels.add_ranked.Goals as goal

pub loop-a-preserved : goal.loop-a-preserved
loop-a-preserved c =
    ranked_on (c.args.order.now.items ++ ranked 0 c.args.chains.now c.args.more.now) c.loop-a.order.items c.add_where.new.order.items c.loop-a.a c.args.chains.now c.args.more.now c.loop-a-test.true c.requires c.loop-a.invariant c.in_ok-add_where.ensures

pub returns : goal.returns
returns c = grind (arith, common_steps)
