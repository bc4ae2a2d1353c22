use Rattle.std.proofs.Common.{All, take}
use Rattle.level_plan.specs.Accesses.{StaysWithin}
use Rattle.level_plan.proofs.access.stay_within.Given as goal

abbrev pub invariant-loop-access : goal.invariant-loop-access
invariant-loop-access l = All (λ access. StaysWithin l.globals access) (take l.access-index l.programs)
