use Rattle.std.proofs.Common.{◌≡◌, take, map}
use Rattle.logic_source.specs.declared.logic.Variable.{Variable}
use Rattle.logic_frames.proofs.names.names_of_globals.Given as goal

-- the names so far
abbrev pub invariant-loop-global : goal.invariant-loop-global
invariant-loop-global l = l.names ≡ map (λ (x : Variable). x.name) (take l.global-index l.globals)
