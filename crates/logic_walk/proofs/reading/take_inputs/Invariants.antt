use Rattle.std.proofs.Common.{◌≡◌, drop, map}
use Rattle.st_tree.specs.View.{view_argument}
use Rattle.st_tree.specs.Meaning.{take_inputs}
use Rattle.logic_walk.specs.Walks.{still}
use Rattle.logic_walk.proofs.reading.take_inputs.Given as goal

-- what is left to take from here does what all does from the start
abbrev pub invariant-loop-argument : goal.invariant-loop-argument
invariant-loop-argument l =
    take_inputs (still l.fn.globals l.fn.seats l.fn.base) l.statement l.fn.instance (map view_argument (drop l.argument-index l.arguments)) l.cells ≡ take_inputs (still l.fn.globals l.fn.seats l.fn.base) l.statement l.fn.instance (map view_argument l.arguments) l.initial.cells
