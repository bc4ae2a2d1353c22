-- Orders by their parts.
use Rattle.std.specs.Prelude.{ℕ, Option}
use Rattle.alarm_machine.specs.declared.states.Verb.{Verb}
use Rattle.alarm_orders.specs.declared.order.Order.{Order}

-- the order of a verb for a target, the number of an alarm or a program, none for one that isn't there, of the plant after so many reloads
abbrev pub order_with : Verb → Option ℕ → ℕ → Order
order_with verb target plant = record { verb = verb; target = target; plant = plant }
