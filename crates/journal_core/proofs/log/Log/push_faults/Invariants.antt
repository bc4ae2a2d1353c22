use Rattle.std.proofs.Common.{◌≡◌, ◌≤◌, ◌+◌, drop, length, map}
use Rattle.journal_core.specs.Rows.{after_entries, fault_entry, last_moment}
use Rattle.journal_core.proofs.log.Log.push_faults.Given as goal

-- the rows of the others are still to be added, and there is room for them
abbrev pub invariant-loop-fault : goal.invariant-loop-fault
invariant-loop-fault l = record {
  rows : after_entries l.moment l.self (map fault_entry (drop l.fault-index l.faults)) ≡ after_entries l.moment l.fn.self (map fault_entry l.faults);
  room : length l.faults ≤ l.self.room + l.fault-index;
  in_order : last_moment l.self.rows ≤ l.moment;
}
