use Rattle.std.proofs.Common.{◌≡◌, ◌++◌, drop}
use Rattle.logic_cells.specs.Cells.{value_at}
use Rattle.engine_system.specs.System.{outputs_from}
use Rattle.engine_system.proofs.steps.outputs.Given as goal

abbrev pub invariant-loop-i : goal.invariant-loop-i
invariant-loop-i l = l.outputs.items ++ outputs_from l.i (drop l.i l.globals) (value_at l.cells) ≡ outputs_from 0 l.globals (value_at l.cells)
