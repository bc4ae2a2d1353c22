use Rattle.std.proofs.Common.{arith}
use Rattle.st_blocks.proofs.Rows.{rows_long, rows_more, rows_end}
use Rattle.st_blocks.proofs.names.graph_of.Goals as goal

pub loop-a-preserved : goal.loop-a-preserved
loop-a-preserved c = record {
  long = rows_long c.loop-a.a c.loop-a.graph.items c.push.new.self.items c.in_ok-row_of.field-0 c.loop-a.invariant.long c.in_ok-push.ensures.items;
  row = rows_more c.args.blocks.now c.loop-a.a c.loop-a.graph.items c.push.new.self.items c.in_ok-row_of.field-0 c.loop-a.invariant.long c.loop-a.invariant.row c.in_ok-push.ensures.items c.in_ok-row_of.ensures;
}

pub returns : goal.returns
returns c =
    rows_end c.args.blocks.now c.loop-a.a c.loop-a.graph.items c.push-2.new.self.items c.new.result c.loop-a.invariant.long c.loop-a.invariant.row (omega (arith, c.loop-a-test.false, c.loop-a.auto.a-end)) c.in_ok-push-2.ensures.items c.new.ensures.items
