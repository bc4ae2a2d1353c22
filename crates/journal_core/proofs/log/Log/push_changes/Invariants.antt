use Rattle.std.proofs.Common.{◌≡◌, ◌≤◌, ◌+◌, drop, length, map}
use Rattle.journal_core.specs.Rows.{after_entries, change_entry, last_moment}
use Rattle.journal_core.proofs.log.Log.push_changes.Given as goal

-- the rows of the others are still to be added, and there is room for them
abbrev pub invariant-loop-change : goal.invariant-loop-change
invariant-loop-change l = record {
  rows : after_entries l.moment l.self (map change_entry (drop l.change-index l.changes)) ≡ after_entries l.moment l.fn.self (map change_entry l.changes);
  room : length l.changes ≤ l.self.room + l.change-index;
  in_order : last_moment l.self.rows ≤ l.moment;
}
