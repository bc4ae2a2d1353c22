-- Consoles of a station, which go on together.
use Rattle.std.specs.Prelude.{List, [], ◌∷◌, All}
use Rattle.console_link.specs.declared.lane.Lane.{Lane}
use Rattle.console_link.specs.Seats.{SameConsole}
use Rattle.alarm_orders.specs.declared.order.Order.{Order}
use Rattle.console_operator.specs.declared.console.Console.{Console}
use Rattle.console_operator.specs.declared.console.Finished.{Finished}
use Rattle.engine.specs.Reply.{Reply}
use Rattle.station.specs.Lanes.{AreConsolesIn, IsEndIn}

-- each has the same number and the same rings as before
abbrev pub AreSame : List (Console Order Reply) → List (Console Order Reply) → Type 0
AreSame [] [] = Unit {0}
AreSame [] (d ∷ ds) = ⊥
AreSame (c ∷ cs) [] = ⊥
AreSame (c ∷ cs) (d ∷ ds) = SameConsole c.link d.link × AreSame cs ds

-- what ended are consoles of the same station
abbrev pub EndAll : List (Console Order Reply) → List (Finished Order Reply) → Type 0
EndAll consoles finished = (lanes : List (Lane Order Reply)) → AreConsolesIn lanes consoles → All (IsEndIn lanes) finished
