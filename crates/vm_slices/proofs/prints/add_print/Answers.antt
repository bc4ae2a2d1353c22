use Rattle.std.proofs.Common.{◌∙◌}
use Rattle.vm_slices.proofs.Printed.{with_kinds_is, with_numbers_is, with_literals_is}
use Rattle.vm_slices.proofs.prints.add_print.Goals as goal

pub returns-clause-kinds : goal.returns-clause-kinds
returns-clause-kinds c =
    let of = c.operation-of.ensures in
    c.in_ok-add_kinds.ensures ∙ with_kinds_is c.args.prints.now.kinds.items c.args.i.now c.operation-of.result of.opcode of.unary of.binary

pub returns-clause-numbers : goal.returns-clause-numbers
returns-clause-numbers c =
    let named = c.named-named.ensures in
    c.in_ok-add_numbers.ensures ∙ with_numbers_is c.args.prints.now.numbers.items c.args.i.now c.named-named.result c.operation-of.result.target named.reads named.writes named.rows_read named.rows_written named.clocks c.operation-of.ensures.targets

pub returns-clause-literals : goal.returns-clause-literals
returns-clause-literals c = c.in_ok-add_literals.ensures ∙ with_literals_is c.args.prints.now.literals.items c.args.i.now c.operation-of.result c.operation-of.ensures.literals
