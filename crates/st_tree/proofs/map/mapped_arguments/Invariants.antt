use Rattle.std.proofs.Common.{◌≡◌, take, map}
use Rattle.st_tree.specs.View.{view_argument}
use Rattle.st_tree.proofs.Mapped.{argument_of}
use Rattle.st_tree.proofs.map.mapped_arguments.Given as goal

-- the arguments so far are mapped
abbrev pub invariant-loop-argument : goal.invariant-loop-argument
invariant-loop-argument g l = map view_argument l.mapped.items ≡ map (argument_of (g.P.Pass.mapping l.pass) l.instance) (take l.argument-index l.arguments)
