use Rattle.std.proofs.Common.{◌≡◌, take}
use Rattle.vm_logic.specs.Framed.{global_names}
use Rattle.vm_logic.proofs.names.global_names.Given as goal

-- the names so far
abbrev pub invariant-loop-global : goal.invariant-loop-global
invariant-loop-global l = l.names ≡ global_names (take l.global-index l.globals)
