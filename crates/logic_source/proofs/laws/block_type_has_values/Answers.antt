use Rattle.std.proofs.Common.{[]}
use Rattle.logic_source.proofs.Levels.{by_its_rule}
use Rattle.logic_source.proofs.Agreeing.{values_ask}
use Rattle.logic_source.specs.Layout.{values_rule}
use Rattle.logic_source.proofs.laws.block_type_has_values.Goals as goal

pub returns : goal.returns
returns c = λ blocks order n r below is. by_its_rule (λ path. []) values_rule blocks order below values_ask n r is
