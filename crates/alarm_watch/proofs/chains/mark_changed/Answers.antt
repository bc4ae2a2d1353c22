use Rattle.std.proofs.Common.{◌*◌, length, arith}
use Rattle.logic_cells.specs.Cells.{value_at}
use Rattle.alarm_watch.proofs.Marked.{all_marked}
use Rattle.alarm_watch.proofs.chains.mark_changed.Goals as goal

pub returns-clause-conditions : goal.returns-clause-conditions
returns-clause-conditions c =
    let past_all = c.loop-block-test.false in
    let most = c.max-end.ensures in
    all_marked (length c.args.marks.now) c.args.conditions.now.starts.items c.args.conditions.now.alarms.items (value_at c.args.before.now) (value_at c.args.now.now) (c.loop-block.block * 8) c.max-end.result c.args.marks.now c.loop-block.marks c.mark_globals-3.new.marks
    (omega (arith, most)) c.loop-block.invariant.conditions
    (λ n h. c.mark_globals-2.ensures.kept n (c.mark_globals-3.ensures.kept n h))
    (λ keys a n g low less has unmarked. c.mark_globals-2.ensures.marked keys a n g (omega (arith, past_all, low)) less has (c.mark_globals-3.ensures.kept n unmarked))

pub returns-clause-suppressions : goal.returns-clause-suppressions
returns-clause-suppressions c =
    let past_all = c.loop-block-test.false in
    let most = c.max-end.ensures in
    all_marked (length c.args.marks.now) c.args.suppressions.now.starts.items c.args.suppressions.now.alarms.items (value_at c.args.before.now) (value_at c.args.now.now) (c.loop-block.block * 8) c.max-end.result c.args.marks.now c.loop-block.marks c.mark_globals-3.new.marks
    (omega (arith, most)) c.loop-block.invariant.suppressions
    (λ n h. c.mark_globals-2.ensures.kept n (c.mark_globals-3.ensures.kept n h))
    (λ keys a n g low less has unmarked. c.mark_globals-3.ensures.marked keys a n g (omega (arith, past_all, low)) less has unmarked)
