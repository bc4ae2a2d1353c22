use Rattle.std.proofs.Common.{List, All}
use Rattle.console_link.specs.declared.lane.Lane.{Lane}
use Rattle.alarm_orders.specs.declared.order.Order.{Order}
use Rattle.station.specs.Reply.{Reply}
use Rattle.station.specs.Lanes.{IsEndIn}
use Rattle.try_desks.specs.Seated.{AreSeated}
use Rattle.try_desks.proofs.endings.join_all.Given as goal

abbrev pub invariant-loop-thread : goal.invariant-loop-thread
invariant-loop-thread g l = (lanes : List (Lane Order Reply)) → AreSeated lanes l.fn.threads.items → AreSeated lanes l.threads.items × All (IsEndIn lanes) l.finished.items

abbrev pub decreases-loop-thread : goal.decreases-loop-thread
decreases-loop-thread g l = goal.left-loop-thread g l
