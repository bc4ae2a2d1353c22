use Rattle.std.proofs.Common.{◌≡◌, take, map}
use Rattle.logic_source.specs.declared.logic.Local.{Local}
use Rattle.logic_frames.proofs.names.names_of_locals.Given as goal

-- the names so far
abbrev pub invariant-loop-local : goal.invariant-loop-local
invariant-loop-local l = l.names ≡ map (λ (x : Local). x.name) (take l.local-index l.locals)
