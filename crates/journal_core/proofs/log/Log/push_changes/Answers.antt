use Rattle.std.proofs.Common.{◌≡◌, ◌∙◌, ap, length}
use Rattle.journal_core.specs.Rows.{after_entry, change_entry}
use Rattle.journal_core.proofs.RowLaws.{added_more, room_more, last_more}
use Rattle.journal_core.proofs.log.Log.push_changes.Goals as goal

pub loop-change-preserved : goal.loop-change-preserved
loop-change-preserved c =
    let at = c.loop-change in
    let pushed : c.push_change.new.self ≡ after_entry c.args.moment at.self (change_entry c.change-item.result) = c.push_change.ensures in
    let same = ap (λ change. after_entry c.args.moment at.self (change_entry change)) c.change-item.is in
    record {
      rows = added_more c.args.moment _ at.self change_entry c.args.changes.now at.change-index c.change-item.result (pushed ∙ same) c.loop-change-test.true ∙ at.invariant.rows;
      room = room_more c.args.moment _ at.self _ (length c.args.changes.now) at.change-index pushed at.invariant.room;
      in_order = last_more c.args.moment _ at.self _ pushed;
    }
