use Rattle.std.proofs.Common.{arith}
use Rattle.std.proofs.lemmas.Grind.{common_steps}
use Rattle.plant_config.proofs.SourceNames.{too_few}
use Rattle.plant_config.proofs.files.have_names.Goals as goal

pub returns-in-None : goal.returns-in-None
returns-in-None c = too_few (λ s. s.0.now) c.args.sources.now c.args.names.now c.loop-source.rest.now c.loop-source.source-index c.loop-source.invariant c.loop-source-test.true c.in-None.ensures.cases

pub loop-source-preserved : goal.loop-source-preserved
loop-source-preserved c = grind (arith, common_steps)

pub returns-then-ne : goal.returns-then-ne
returns-then-ne c = grind (arith, common_steps)

pub returns : goal.returns
returns c = grind (arith, common_steps)
