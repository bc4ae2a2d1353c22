use Rattle.logic_source.proofs.Levels.{by_its_rule}
use Rattle.logic_limits.specs.Counts.{routine_slots, routine_size, routine_cost}
use Rattle.logic_limits.specs.declared.measures.Measure.TheVariants as measure
use Rattle.logic_limits.proofs.Alike.{asks_declared, slots_keep, weights_keep}
use Rattle.logic_limits.proofs.laws.block_type_counts.Goals as goal

pub returns-clause-slots : goal.returns-clause-slots
returns-clause-slots c = λ blocks order below n r is. by_its_rule 0 routine_slots blocks order below (asks_declared routine_slots slots_keep) n r is

pub returns-clause-size : goal.returns-clause-size
returns-clause-size c = λ blocks order below n r is. by_its_rule 0 routine_size blocks order below (asks_declared routine_size (weights_keep measure.Size)) n r is

pub returns-clause-cost : goal.returns-clause-cost
returns-clause-cost c = λ blocks order below n r is. by_its_rule 0 routine_cost blocks order below (asks_declared routine_cost (weights_keep measure.Cost)) n r is
