use Rattle.std.proofs.Common.{rules}
use Rattle.std.proofs.lemmas.List.Sorted.{IsNonDecreasingBy-from_sort_by_key}
use Rattle.level_jobs.specs.declared.fault.ProgramFault.{ProgramFault}
use Rattle.level_jobs.proofs.running.sort_faults.Goals as goal

pub returns-clause-rising : goal.returns-clause-rising
returns-clause-rising c = IsNonDecreasingBy-from_sort_by_key (λ (fault : ProgramFault). fault.program) _ c.sort_unstable_by_key.ensures.sorted (λ a r q k. search rules)
