use Rattle.std.proofs.Common.{◌≡◌, ◌*◌, ◌<◌, ◌≤◌, drop}
use Rattle.alarm_bank.specs.Shelves.{IsTreeBut}
use Rattle.alarm_bank.proofs.shelf.mend.Given as goal

abbrev pub invariant-loop-at : goal.invariant-loop-at
invariant-loop-at l = record {
  tree : IsTreeBut l.tree l.count l.at;
  low : 1 ≤ l.at;
  high : l.at < 2 * l.count;
  leaves : drop l.count l.tree ≡ drop l.count l.fn.tree;
}

abbrev pub decreases-loop-at : goal.decreases-loop-at
decreases-loop-at l = l.at
