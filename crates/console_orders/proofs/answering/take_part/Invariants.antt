use Rattle.std.proofs.Common.{◌≡◌, List, length, false}
use Rattle.alarm_orders.specs.declared.order.Order.{Order}
use Rattle.console_orders.specs.Turns.{Took, UnlessRefused}
use Rattle.console_orders.proofs.answering.take_part.Given as goal

abbrev pub invariant-loop : goal.invariant-loop
invariant-loop g l =
    (orders : List Order) × Took (g.T.Recording.plant_of l.fn.recorder) l.fn.lane l.lane (g.T.Recording.history_of l.fn.recorder) (g.T.Recording.history_of l.recorder) orders × (length orders ≡ l.taken) × (l.taken ≡ l.counter)
    × ((g.T.Recording.plant_of l.recorder) ≡ (g.T.Recording.plant_of l.fn.recorder))
    × ((g.T.Recording.parts_of l.recorder) ≡ (g.T.Recording.parts_of l.fn.recorder))
    × ((g.T.Recording.log_of l.recorder) ≡ (g.T.Recording.log_of l.fn.recorder))
    × UnlessRefused (g.T.Recording.shows_all l.fn.recorder) (g.T.Recording.shows_all l.recorder) (g.T.Recording.refusals_of l.fn.recorder) (g.T.Recording.refusals_of l.recorder) false
