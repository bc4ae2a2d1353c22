use Rattle.std.proofs.Common.{◌≡◌, ◌++◌, drop}
use Rattle.std.specs.List.{filter}
use Rattle.logic_cells.specs.Cells.{value_at}
use Rattle.engine_system.specs.Steps.{differs}
use Rattle.engine_system.proofs.steps.list_changed.Given as goal

abbrev pub invariant-loop-global : goal.invariant-loop-global
invariant-loop-global l = l.changed.items ++ filter (differs (value_at l.before) (value_at l.now)) (drop l.global-index l.outputs) ≡ filter (differs (value_at l.before) (value_at l.now)) l.outputs
