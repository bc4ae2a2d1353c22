use Rattle.std.proofs.Common.{◌≡◌, map, take}
use Rattle.logic_cells.specs.Cells.{value_at}
use Rattle.engine_system.specs.Steps.{output_in}
use Rattle.engine_system.proofs.steps.renew.Given as goal

abbrev pub invariant-loop-global : goal.invariant-loop-global
invariant-loop-global l = l.renewed.items ≡ map (output_in (value_at l.cells)) (take l.global-index l.outputs)
