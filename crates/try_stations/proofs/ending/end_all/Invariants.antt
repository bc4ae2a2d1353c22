use Rattle.std.proofs.Common.{List, All}
use Rattle.console_link.specs.declared.lane.Lane.{Lane}
use Rattle.alarm_orders.specs.declared.order.Order.{Order}
use Rattle.engine.specs.Reply.{Reply}
use Rattle.station.specs.Lanes.{IsEndIn, AreConsolesIn}
use Rattle.try_stations.proofs.ending.end_all.Given as goal

abbrev pub invariant-loop-console : goal.invariant-loop-console
invariant-loop-console l = (lanes : List (Lane Order Reply)) → AreConsolesIn lanes l.fn.consoles.items → AreConsolesIn lanes l.consoles.items × All (IsEndIn lanes) l.finished.items

abbrev pub decreases-loop-console : goal.decreases-loop-console
decreases-loop-console l = goal.left-loop-console l
