use Rattle.std.proofs.Common.{◌≡◌, take, map}
use Rattle.logic_source.specs.declared.logic.Variable.{Variable}
use Rattle.logic_frames.proofs.names.kinds_of_globals.Given as goal

abbrev pub invariant-loop-global : goal.invariant-loop-global
invariant-loop-global l = l.kinds.items ≡ map (λ (x : Variable). x.kind) (take l.global-index l.globals)
