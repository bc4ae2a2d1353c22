use Rattle.std.proofs.Common.{◌≡◌, take}
use Rattle.std.specs.List.{flat_map}
use Rattle.acc_vm.specs.Operands.{written_rows}
use Rattle.vm_slices.proofs.rows.written_in_turn.Given as goal

abbrev pub invariant-loop-i : goal.invariant-loop-i
invariant-loop-i l = l.rows.items ≡ flat_map written_rows (take l.i-index l.instrs)
