use Rattle.std.proofs.Common.{◌≡◌, map, take, get_or}
use Rattle.acc_vm.specs.Operands.{renamed}
use Rattle.vm_slices.proofs.renaming.renamed_all.Given as goal

abbrev pub invariant-loop-i : goal.invariant-loop-i
invariant-loop-i l = l.moved.items ≡ map (renamed (λ s. get_or l.slots s 0) (λ k. get_or l.clocks k 0)) (take l.i-index l.instrs)
