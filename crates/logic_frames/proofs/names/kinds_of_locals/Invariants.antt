use Rattle.std.proofs.Common.{◌≡◌, take, map}
use Rattle.logic_source.specs.declared.logic.Local.{Local}
use Rattle.logic_frames.proofs.names.kinds_of_locals.Given as goal

abbrev pub invariant-loop-local : goal.invariant-loop-local
invariant-loop-local l = l.kinds.items ≡ map (λ (x : Local). x.kind) (take l.local-index l.locals)
