use Rattle.std.proofs.Common.{◌-◌, ◌*◌}
use Rattle.alarm_bank.proofs.shelf.+mark_below.Given as goal

abbrev pub decreases-mark_below : goal.decreases-mark_below
decreases-mark_below l = 2 * l.count - l.node
