-- A console's part of a history: its orders, with their replies.
use Rattle.std.specs.Prelude.{ℕ, ◌==◌, List, [], ◌∷◌, ◌++◌, map, Option, Some, None, if◌then◌else◌}
use Rattle.console_link.specs.declared.answer.Answer.{Answer}
use Rattle.engine_system.specs.Event.{Event}
use Rattle.engine_system.specs.Event.TheVariants as event
use Rattle.alarm_orders.specs.declared.order.Order.{Order}
use Rattle.engine_system.specs.Plants.{PlainPlant}
use Rattle.engine_system.specs.declared.event.Reply.{Reply}
use Rattle.engine_system.specs.System.{System, opening_system, after_event, reply_to}

-- the order that an event is, with the number of its console
abbrev pub order_of_event : Event → Option (ℕ × Order)
order_of_event (event.Scan image t) = None
order_of_event (event.Order console order) = Some (console, order)
order_of_event (event.Reload new) = None

-- what an order is answered in a state
abbrev pub answer_to : System → ℕ → Order → Answer Order Reply
answer_to sys console order = record { order = order; reply = reply_to sys console order }

-- the answers that a console has of an event in a state: one, if the event is an order of this console
abbrev pub answers_in : ℕ → System → Event → List (Answer Order Reply)
answers_in console sys e = elim (order_of_event e) [ None ↦ [] | Some o ↦ if o.0 == console then answer_to sys o.0 o.1 ∷ [] else [] ]

-- and of events that come one after another from a state on, each in the state that those before it left
abbrev pub answers_from : ℕ → System → List Event → List (Answer Order Reply)
answers_from console sys [] = []
answers_from console sys (e ∷ events) = answers_in console sys e ++ answers_from console (after_event sys e) events

-- the orders of a console with their replies, in the order of the history
unfoldable pub answers_of : ℕ → PlainPlant → List Event → List (Answer Order Reply)
answers_of console plant history = answers_from console (opening_system plant) history

-- the orders of answers, in order
abbrev pub orders_in : List (Answer Order Reply) → List Order
orders_in answers = map (λ a. a.order) answers

-- orders of a console as events, one after another
abbrev pub events_by : ℕ → List Order → List Event
events_by console orders = map (λ order. event.Order console order) orders
