use Rattle.logic_source.proofs.Levels.{by_its_rule}
use Rattle.logic_source.proofs.Agreeing.{begins_ask}
use Rattle.logic_source.specs.Worlds.{begin_rule}
use Rattle.logic_source.proofs.laws.block_type_begins.Goals as goal

pub returns : goal.returns
returns c = λ source order n r below is. by_its_rule (λ path w. w) (begin_rule source) source.blocks order below (begins_ask source) n r is
