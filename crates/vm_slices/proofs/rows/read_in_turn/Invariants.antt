use Rattle.std.proofs.Common.{◌≡◌, take}
use Rattle.std.specs.List.{flat_map}
use Rattle.acc_vm.specs.Operands.{read_rows}
use Rattle.vm_slices.proofs.rows.read_in_turn.Given as goal

abbrev pub invariant-loop-i : goal.invariant-loop-i
invariant-loop-i l = l.rows.items ≡ flat_map read_rows (take l.i-index l.instrs)
