-- A console that went to a thread of its own comes back as a console of the same station.
use Rattle.std.specs.Prelude.{List}
use Rattle.console_link.specs.declared.lane.Lane.{Lane}
use Rattle.alarm_orders.specs.declared.order.Order.{Order}
use Rattle.console_operator.specs.declared.console.Console.{Console}
use Rattle.console_operator.specs.declared.console.Finished.{Finished}
use Rattle.station.specs.Reply.{Reply}
use Rattle.station.specs.Lanes.{IsConsoleIn, IsEndIn}

-- what ended is a console of each station of which this one is a console
abbrev pub EndsFrom : Console Order Reply → Finished Order Reply → Type 0
EndsFrom c f = (lanes : List (Lane Order Reply)) → IsConsoleIn lanes c.link → IsEndIn lanes f
