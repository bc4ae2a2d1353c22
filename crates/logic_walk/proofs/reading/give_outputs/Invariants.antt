use Rattle.std.proofs.Common.{◌≡◌, drop, map}
use Rattle.st_tree.specs.View.{view_argument}
use Rattle.st_tree.specs.Meaning.{give_outputs}
use Rattle.logic_walk.specs.Walks.{still}
use Rattle.logic_walk.proofs.reading.give_outputs.Given as goal

-- what is left to give from here does what all does from the start
abbrev pub invariant-loop-argument : goal.invariant-loop-argument
invariant-loop-argument l =
    give_outputs (still l.fn.globals l.fn.seats l.fn.base) l.fn.instance (map view_argument (drop l.argument-index l.arguments)) l.cells ≡ give_outputs (still l.fn.globals l.fn.seats l.fn.base) l.fn.instance (map view_argument l.arguments) l.initial.cells
