use Rattle.logic_source.proofs.Levels.{by_its_rule}
use Rattle.logic_source.proofs.laws.answered_by_rule.Goals as goal

pub returns : goal.returns
returns g c = by_its_rule
