use Rattle.level_runs.proofs.Tight.{lowest, fewest}
use Rattle.level_runs.proofs.laws.planned_levels_are_fewest.Goals as goal

pub returns : goal.returns
returns c = record {
  each = λ globals codes levels other is levelling. lowest globals codes is.accesses levels is.are is.within is.plan other levelling;
  last = λ globals codes levels other last is levelling most. fewest globals codes is.accesses levels is.are is.within is.plan other last levelling most;
}
