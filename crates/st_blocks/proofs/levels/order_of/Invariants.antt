use Rattle.st_blocks.proofs.LevelSteps.{IsLevel, IsPart}
use Rattle.st_blocks.proofs.levels.order_of.Given as goal

abbrev pub invariant-loop-step : goal.invariant-loop-step
invariant-loop-step l = IsLevel l.graph l._step l.chains.items × IsPart l.graph l._step l.order.items
