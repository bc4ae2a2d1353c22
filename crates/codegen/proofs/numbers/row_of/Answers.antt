use Rattle.logic_walk.specs.Walks.{slot_of}
use Rattle.codegen.specs.Within.{fits}
use Rattle.codegen.proofs.Rows.{row_first}
use Rattle.codegen.proofs.numbers.row_of.Goals as goal

pub slot_of-requires : goal.slot_of-requires
slot_of-requires c = row_first fits (slot_of c.args.globals c.args.base c.args.array) c.args.bounds c.requires
