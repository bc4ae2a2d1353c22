use Rattle.std.proofs.Common.{◌≡◌, length}
use Rattle.level_plan.specs.Plans.{last_of}
use Rattle.level_plan.proofs.Steps.{IsPlannedTo}
use Rattle.level_plan.proofs.planning.plan.Given as goal

abbrev pub invariant-loop-access : goal.invariant-loop-access
invariant-loop-access l = record {
  writers : length l.writers.items ≡ l.globals;
  readers : length l.readers.items ≡ l.globals;
  planned : IsPlannedTo l.programs l.access-index l.levels.items l.writers.items l.readers.items;
  last : l.last ≡ last_of l.levels.items;
}
