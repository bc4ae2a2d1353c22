use Rattle.std.proofs.Common.{◌≡◌, ℕ, List, length, take}
use Rattle.std.specs.Option.{option_map}
use Rattle.logic_source.specs.declared.logic.Instance.{Instance}
use Rattle.logic_limits.specs.Measures.{block_of}
use Rattle.logic_limits.proofs.Naming.{first_named}
use Rattle.logic_limits.proofs.instances.instances_of.Given as goal

abbrev pub invariant-loop-instance : goal.invariant-loop-instance
invariant-loop-instance l = record {
  long : length l.instances.names ≡ length l.instances.blocks.items;
  found : (name : List ℕ) → block_of l.instances.names l.instances.blocks.items name ≡ option_map (λ (i : Instance). i.of) (first_named (take l.instance-index l.routine.instances.items) name);
}
