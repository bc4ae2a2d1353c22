use Rattle.std.proofs.Common.{List}
use Rattle.console_link.specs.declared.lane.Lane.{Lane}
use Rattle.alarm_orders.specs.declared.order.Order.{Order}
use Rattle.station.specs.Reply.{Reply}
use Rattle.station.specs.Lanes.{AreConsolesIn}
use Rattle.try_desks.specs.Seated.{AreSeated}
use Rattle.try_desks.proofs.starts.seat_all.Given as goal

abbrev pub invariant-loop-console : goal.invariant-loop-console
invariant-loop-console g l = (lanes : List (Lane Order Reply)) → AreConsolesIn lanes l.fn.consoles.items → AreConsolesIn lanes l.consoles.items × AreSeated lanes l.threads.items

abbrev pub decreases-loop-console : goal.decreases-loop-console
decreases-loop-console g l = goal.left-loop-console g l
