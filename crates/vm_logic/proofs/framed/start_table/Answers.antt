use Rattle.vm_logic.proofs.Started.{one_frame}
use Rattle.vm_logic.proofs.framed.start_table.Goals as goal

pub start_of-requires-clause-few : goal.start_of-requires-clause-few
start_of-requires-clause-few c = c.requires.small.starts

pub start_of-requires-clause-cells : goal.start_of-requires-clause-cells
start_of-requires-clause-cells c = c.requires.small.globals

pub returns : goal.returns
returns c = record {
  start = c.in_ok-start_of.field-0;
  table_is = one_frame c.new-start.result.items c.push.new.self.items c.in_ok-start_of.field-0 c.new-start.ensures.items c.in_ok-push.ensures.items;
  is_start = c.in_ok-start_of.ensures;
}
