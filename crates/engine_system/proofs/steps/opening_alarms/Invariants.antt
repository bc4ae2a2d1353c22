use Rattle.std.proofs.Common.{◌≡◌, take, map}
use Rattle.engine_system.specs.System.{opening_alarm}
use Rattle.engine_system.proofs.steps.opening_alarms.Given as goal

abbrev pub invariant-loop-row : goal.invariant-loop-row
invariant-loop-row l = l.alarms.items ≡ map opening_alarm (take l.row-index l.rows)
