use Rattle.st_tree.specs.Meaning.{Done}
use Rattle.logic_source.proofs.Levels.{by_its_rule}
use Rattle.logic_source.proofs.Agreeing.{runs_ask}
use Rattle.logic_source.specs.Worlds.{run_rule}
use Rattle.logic_source.proofs.laws.block_type_runs.Goals as goal

pub returns : goal.returns
returns c = λ source order t n r below is. by_its_rule (λ path w. Done w) (run_rule source t) source.blocks order below (runs_ask source t) n r is
