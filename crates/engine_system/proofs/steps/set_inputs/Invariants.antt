use Rattle.std.proofs.Common.{◌≡◌, drop, fold}
use Rattle.engine_system.specs.Steps.{with_cell}
use Rattle.engine_system.proofs.steps.set_inputs.Given as goal

abbrev pub invariant-loop-global : goal.invariant-loop-global
invariant-loop-global l = fold with_cell l.cells (drop l.global-index l.image) ≡ fold with_cell l.fn.cells l.image
