use Rattle.acc_vm.specs.Operands.{written_rows}
use Rattle.vm_slices.proofs.RowLaws.{rows_are}
use Rattle.vm_slices.proofs.rows.rows_written.Goals as goal

pub returns : goal.returns
returns c = rows_are written_rows c.args.instrs.now c.in_ok-rows.rows.items c.put_in_order.new.rows.items c.in_ok-rows.ensures c.put_in_order.ensures
