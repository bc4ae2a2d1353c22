use Rattle.std.proofs.Common.{arith}
use Rattle.logic_frames.proofs.Built.{laid_on, row_fits, row_more}
use Rattle.logic_frames.proofs.names.laid_of.Goals as goal

pub overflow_add-next : goal.overflow_add-next
overflow_add-next c =
    let fits = row_fits c.args.rows.now c.loop-row.row-index c.row-item.result c.loop-row-test.true c.row-item.is in
    let many = c.loop-row.invariant.many in
    let long = c.elements.ensures in
    let few = c.requires in
    omega (arith, fits, many, long, few)

pub overflow_cast-first : goal.overflow_cast-first
overflow_cast-first c =
    let fits = row_fits c.args.rows.now c.loop-row.row-index c.row-item.result c.loop-row-test.true c.row-item.is in
    let many = c.loop-row.invariant.many in
    let long = c.elements.ensures in
    let few = c.requires in
    omega (arith, fits, many, long, few)

pub loop-row-preserved : goal.loop-row-preserved
loop-row-preserved c =
    let rows = c.args.rows.now in
    let i = c.loop-row.row-index in
    let row = c.row-item.result in
    let more = row_more rows i row c.loop-row-test.true c.row-item.is in
    let many = c.loop-row.invariant.many in
    let long = c.elements.ensures in
    record {
      all = laid_on c.args.from rows i row c.loop-row.first _ c.loop-row.laid.items c.push.new.self.items c.loop-row-test.true c.row-item.is (omega (arith, long)) c.in_ok-push.ensures.items c.loop-row.invariant.all;
      many = omega (arith, more, many, long);
    }
