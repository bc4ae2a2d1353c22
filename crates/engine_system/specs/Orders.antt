-- What an order of a console does, or why it is refused.
use Rattle.std.specs.Prelude.{ℕ, ◌==◌, Bool, false, List, if◌then◌else◌, Option, Some, None, Result, Ok, Err, slice_get, slice_set}
use Rattle.std.specs.List.{list_any}
use Rattle.std.specs.Option.{option_map}
use Rattle.alarm_machine.specs.Orders.{is_restart}
use Rattle.alarm_machine.specs.declared.states.Verb.{Verb}
use Rattle.alarm_machine.specs.declared.states.Verb.TheVariants as verb
use Rattle.alarm_machine.specs.declared.states.OrderFault.{OrderFault}
use Rattle.alarm_machine.specs.declared.states.OrderFault.TheVariants as fault
use Rattle.alarm_machine.specs.Alarms.{PlainAlarm, after_order}
use Rattle.alarm_machine.specs.Codes.{PlainChange}
use Rattle.alarm_bank.specs.Moves.{change_from}
use Rattle.plant_file.specs.declared.console.ListedConsole.{ListedConsole}
use Rattle.engine_history.specs.Plants.{PlainPlant}
use Rattle.engine_history.specs.Orderers.{has_area}
use Rattle.alarm_orders.specs.Orders.{order_with}
use Rattle.alarm_orders.specs.declared.order.Order.{Order}
use Rattle.engine_system.specs.declared.event.Reply.{Reply}
use Rattle.engine_system.specs.declared.event.Reply.TheVariants as reply
use Rattle.engine_system.specs.declared.state.Effect.{Effect}
use Rattle.engine_system.specs.declared.state.Effect.TheVariants as effect

-- whether a console has this number
abbrev pub is_console : ℕ → ListedConsole → Bool
is_console number console = console.number == number

-- the effect of an order on the alarm of a number, by what the table makes of that alarm
abbrev pub alarm_effect : ℕ → Result PlainAlarm OrderFault → Result Effect OrderFault
alarm_effect n (Ok alarm) = Ok (effect.Changed n alarm)
alarm_effect n (Err e) = Err e

-- the effect of an order on an alarm, if there is one of this number
abbrev pub order_at : ℕ → Verb → ℕ → Option PlainAlarm → Result Effect OrderFault
order_at n verb last None = Err fault.UnknownTarget
order_at n verb last (Some alarm) = alarm_effect n (after_order verb last alarm)

-- an order to an alarm: O1 where it isn't there, O2 where no console of this number has its area, then O3 and O4 by the table
abbrev pub alarm_order : PlainPlant → List PlainAlarm → ℕ → ℕ → Verb → ℕ → Result Effect OrderFault
alarm_order plant alarms last console verb n = elim (slice_get plant.alarms n) [
  | None ↦ Err fault.UnknownTarget
  | Some row ↦ if list_any (has_area console row.area) plant.consoles then order_at n verb last (slice_get alarms n) else Err fault.NotYourArea
]

-- a restart: O1 where the program isn't there, O2 where no console has this number, O5 where the program isn't faulted
abbrev pub program_order : PlainPlant → List Bool → ℕ → ℕ → Result Effect OrderFault
program_order plant faulted console n = elim (slice_get faulted n) [
  | None ↦ Err fault.UnknownTarget
  | Some flag ↦ if list_any (is_console console) plant.consoles then (if flag then Ok (effect.Restarted n) else Err fault.NotFaulted) else Err fault.NotYourArea
]

-- the order to restart the program of a number, in the plant after so many reloads
abbrev pub restart_of : Option ℕ → ℕ → Order
restart_of program plant = order_with verb.Restart program plant

-- what an order to the present plant does, or why it is refused
abbrev pub order_outcome : PlainPlant → List PlainAlarm → List Bool → ℕ → ℕ → Order → Result Effect OrderFault
order_outcome plant alarms faulted last console order = elim order.target [
  | None ↦ Err fault.UnknownTarget
  | Some n ↦ if is_restart order.verb then program_order plant faulted console n else alarm_order plant alarms last console order.verb n
]

-- after so many reloads an order is refused whose maker knew another number of them: O6, before all else
abbrev pub unless_old : ℕ → Order → Result Effect OrderFault → Result Effect OrderFault
unless_old reloads order outcome = if order.plant == reloads then outcome else Err fault.OldPlant

-- the alarms after an order: one of them is changed, or none
abbrev pub alarms_by : Result Effect OrderFault → List PlainAlarm → List PlainAlarm
alarms_by (Ok (effect.Changed n alarm)) alarms = slice_set alarms n alarm
alarms_by _ alarms = alarms

-- which programs are faulted after an order: a restarted one is no longer
abbrev pub faulted_by : Result Effect OrderFault → List Bool → List Bool
faulted_by (Ok (effect.Restarted n)) faulted = slice_set faulted n false
faulted_by _ faulted = faulted

-- the alarm whose code an order changes, by its number, with the change
abbrev pub changed_by : Result Effect OrderFault → List PlainAlarm → Option (ℕ × PlainChange)
changed_by (Ok (effect.Changed n alarm)) alarms = option_map (λ change. (n, change)) (change_from (slice_get alarms n) alarm)
changed_by _ alarms = None

-- the reply: the refusal, or the change of the alarm's code if there is one
abbrev pub reply_by : Result Effect OrderFault → List PlainAlarm → Reply
reply_by (Err e) alarms = reply.Refused e
reply_by (Ok (effect.Restarted n)) alarms = reply.Done None
reply_by (Ok (effect.Changed n alarm)) alarms = reply.Done (change_from (slice_get alarms n) alarm)
