use Rattle.logic_source.proofs.Distinct.{typed_distinct}
use Rattle.logic_source.proofs.KindPaths.{global_put}
use Rattle.logic_source.specs.Units.{source_in}
use Rattle.logic_source.proofs.laws.assigned_global_stays_in_range.Goals as goal

pub returns : goal.returns
returns c = λ units typed w i global n at fits holds. global_put (source_in units) (typed_distinct units typed) w i global n at fits holds
