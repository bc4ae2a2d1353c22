use Rattle.std.proofs.Common.{◌≡◌, List, ◌++◌, All}
use mathlib.Core.List.{IsPrefix}
use Rattle.console_operator.specs.declared.console.Finished.{Finished as Ended}
use Rattle.alarm_orders.specs.declared.order.Order.{Order}
use Rattle.console_recorder.specs.Reply.{Reply}
use Rattle.station.specs.Lanes.{links_in}
use Rattle.station.specs.Closings.{AreEnded}
use Rattle.station.proofs.closing.end_lanes.Given as goal

abbrev pub invariant-loop-console : goal.invariant-loop-console
invariant-loop-console l =
    (ended : List (Ended Order Reply)) × (l.fn.finished.items ≡ l.finished.items ++ ended) × AreEnded (links_in ended) l.fn.lanes l.lanes
    × (l.mark.log ≡ l.fn.mark.log) × IsPrefix l.fn.mark.entries l.mark.entries × All (λ (f : Ended Order Reply). IsPrefix f.mark.entries l.mark.entries) ended

abbrev pub decreases-loop-console : goal.decreases-loop-console
decreases-loop-console l = goal.left-loop-console l
