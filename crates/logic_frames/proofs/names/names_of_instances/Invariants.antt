use Rattle.std.proofs.Common.{◌≡◌, take, map}
use Rattle.logic_source.specs.declared.logic.Instance.{Instance}
use Rattle.logic_frames.proofs.names.names_of_instances.Given as goal

-- the names so far
abbrev pub invariant-loop-instance : goal.invariant-loop-instance
invariant-loop-instance l = l.names ≡ map (λ (x : Instance). x.name) (take l.instance-index l.list)
