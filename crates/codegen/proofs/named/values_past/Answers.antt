use Rattle.std.proofs.Common.{ap, arith}
use Rattle.acc_vm.specs.Operands.{operands, bounds_of, row_slots, listed, past_all, past_rows}
use Rattle.acc_vm.proofs.Table.{past_append, past_rows_are}
use Rattle.codegen.proofs.named.values_past.Goals as goal

pub returns : goal.returns
returns c =
    let o = operands c.args.instr.now in
    let bounds = bounds_of o in
    let named = c.named-named in
    let reads = ap past_all named.ensures.reads in
    let writes = ap past_all named.ensures.writes in
    let rows_read = ap past_rows named.ensures.rows_read in
    let rows_written = ap past_rows named.ensures.rows_written in
    let both = past_append (listed named.result.reads.0) (listed named.result.reads.1) in
    let all_read = past_append o.reads (row_slots bounds o.rows_read) in
    let all_written = past_append o.writes (row_slots bounds o.rows_written) in
    let slots_read = past_rows_are bounds o.rows_read in
    let slots_written = past_rows_are bounds o.rows_written in
    omega (arith, reads, writes, rows_read, rows_written, both, all_read, all_written, slots_read, slots_written)
