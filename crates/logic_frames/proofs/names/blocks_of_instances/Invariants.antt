use Rattle.std.proofs.Common.{◌≡◌, take, map}
use Rattle.logic_source.specs.declared.logic.Instance.{Instance}
use Rattle.logic_frames.proofs.names.blocks_of_instances.Given as goal

abbrev pub invariant-loop-instance : goal.invariant-loop-instance
invariant-loop-instance l = l.blocks.items ≡ map (λ (x : Instance). x.of) (take l.instance-index l.list)
