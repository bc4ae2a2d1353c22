-- The threads of consoles, each of which promises the end of its own.
use Rattle.std.specs.Prelude.{List, All}
use Rattle.console_link.specs.declared.lane.Lane.{Lane}
use Rattle.alarm_orders.specs.declared.order.Order.{Order}
use Rattle.console_operator.specs.declared.console.Console.{Console}
use Rattle.console_operator.specs.declared.console.Finished.{Finished}
use Rattle.station.specs.Reply.{Reply}
use Rattle.core.specs.declared.thread.PromisedHandle.{PromisedHandle}
use Rattle.station.specs.Lanes.{AreConsolesIn, IsConsoleIn, IsEndIn}
use Rattle.try_desks.specs.declared.stand.Stint.{Stint}
use Rattle.try_desks.specs.declared.starts.Seat.{Seat}

abbrev pub Thread : Type 0
Thread = PromisedHandle Stint Seat

-- each of the threads has a console of that station
abbrev pub AreSeated : List (Lane Order Reply) → List Thread → Type 0
AreSeated lanes threads = All (λ (t : Thread). IsConsoleIn lanes t.promise.0.value.link) threads

-- the threads have consoles of each station of which these are consoles
abbrev pub SeatsAll : List (Console Order Reply) → List Thread → Type 0
SeatsAll consoles threads = (lanes : List (Lane Order Reply)) → AreConsolesIn lanes consoles → AreSeated lanes threads

-- what came back are ended consoles of each station of which the threads had consoles
abbrev pub EndsAll : List Thread → List (Finished Order Reply) → Type 0
EndsAll threads finished = (lanes : List (Lane Order Reply)) → AreSeated lanes threads → All (IsEndIn lanes) finished
