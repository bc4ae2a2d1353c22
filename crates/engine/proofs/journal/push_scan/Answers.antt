use Rattle.std.proofs.Common.{◌∙◌, ◌++◌, ap, length, map}
use Rattle.journal_core.specs.Rows.{after_entries, fault_entry, change_entry}
use Rattle.engine.proofs.Journals.{after_both, last_after, faults_room}
use Rattle.engine.proofs.journal.push_scan.Goals as goal

pub push_changes-requires-clause-room : goal.push_changes-requires-clause-room
push_changes-requires-clause-room c =
    let there = rw (← c.report.view_is) at c.requires.room in
    faults_room c.report.inside.moment c.args.log.now c.push_faults.new.self c.as_slice.result.now (length c.as_slice-2.result.now) c.push_faults.ensures (rw (c.as_slice.ensures.value, c.as_slice-2.ensures.value) there)

pub push_changes-requires-clause-in_order : goal.push_changes-requires-clause-in_order
push_changes-requires-clause-in_order c =
    let late = rw (← c.report.view_is) at c.requires.in_order in
    rw c.push_faults.ensures (last_after c.report.inside.moment c.args.log.now (map fault_entry c.as_slice.result.now) late)

pub returns : goal.returns
returns c =
    let m = c.report.inside.moment in
    let log = c.args.log.now in
    rw (← c.report.view_is) (c.push_changes.ensures
    ∙ ap (λ l. after_entries m l (map change_entry c.as_slice-2.result.now)) c.push_faults.ensures
    ∙ after_both m log (map fault_entry c.as_slice.result.now) (map change_entry c.as_slice-2.result.now)
    ∙ ap (λ l. after_entries m log (map fault_entry l ++ map change_entry c.as_slice-2.result.now)) c.as_slice.ensures.value
    ∙ ap (λ l. after_entries m log (map fault_entry c.report.inside.faults.items ++ map change_entry l)) c.as_slice-2.ensures.value)
