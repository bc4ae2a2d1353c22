use Rattle.std.proofs.Common.{[]}
use Rattle.logic_source.proofs.Levels.{by_its_rule}
use Rattle.logic_source.proofs.Agreeing.{clocks_ask}
use Rattle.logic_source.specs.Layout.{clocks_rule}
use Rattle.logic_source.proofs.laws.block_type_has_clocks.Goals as goal

pub returns : goal.returns
returns c = λ blocks order n r below is. by_its_rule (λ path. []) clocks_rule blocks order below clocks_ask n r is
