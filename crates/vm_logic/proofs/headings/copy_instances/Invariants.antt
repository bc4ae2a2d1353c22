use Rattle.std.proofs.Common.{◌≡◌, take}
use Rattle.vm_logic.proofs.headings.copy_instances.Given as goal

abbrev pub invariant-loop-instance : goal.invariant-loop-instance
invariant-loop-instance l = l.copies.items ≡ take l.instance-index l.instances
