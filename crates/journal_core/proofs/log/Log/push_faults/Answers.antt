use Rattle.std.proofs.Common.{◌∙◌, length}
use Rattle.journal_core.specs.Rows.{fault_entry}
use Rattle.journal_core.proofs.RowLaws.{added_more, room_more, last_more}
use Rattle.journal_core.proofs.log.Log.push_faults.Goals as goal

pub loop-fault-preserved : goal.loop-fault-preserved
loop-fault-preserved c =
    let at = c.loop-fault in
    record {
      rows = added_more c.args.moment _ at.self fault_entry c.args.faults.now at.fault-index _ c.push.ensures c.loop-fault-test.true ∙ at.invariant.rows;
      room = room_more c.args.moment _ at.self _ (length c.args.faults.now) at.fault-index c.push.ensures at.invariant.room;
      in_order = last_more c.args.moment _ at.self _ c.push.ensures;
    }
