use Rattle.std.proofs.Common.{◌≡◌, take, map}
use Rattle.st_tree.specs.View.{view_argument}
use Rattle.logic_frames.specs.Scoped.{flat_argument}
use Rattle.logic_frames.proofs.resolve.resolve_arguments.Given as goal

-- the arguments so far are resolved
abbrev pub invariant-loop-argument : goal.invariant-loop-argument
invariant-loop-argument l = map view_argument l.resolved.items ≡ map (flat_argument l.scope l.instance) (map view_argument (take l.argument-index l.arguments))
