-- The system: it holds its plant, and each event is a step from system to system.
use Rattle.std.specs.Prelude.{ℕ, ◌+◌, ◌==◌, ℤ, nat_lt, nat_le, Bool, true, false, not, if◌then◌else◌, List, [], ◌∷◌, map, fold, Option, Some, None, Result, Ok, Err}
use Rattle.std.specs.Ordering.{int_eq}
use Rattle.plant_types.specs.Pairs.{PlainPair}
use Rattle.plant_types.specs.Values.{is_true, value_of_kind}
use Rattle.plant_types.specs.declared.values.Value.{Value}
use Rattle.plant_types.specs.declared.values.Trap.{Trap}
use Rattle.plant_types.specs.declared.values.Region.{Region}
use Rattle.plant_types.specs.declared.values.Region.TheVariants as region
use Rattle.st_tree.specs.Meaning.{Spot}
use Rattle.logic_source.specs.declared.logic.Variable.{Variable}
use Rattle.logic_source.specs.Worlds.{World, opening}
use Rattle.logic_source.specs.Carried.{carried}
use Rattle.alarm_machine.specs.declared.states.OrderFault.{OrderFault}
use Rattle.alarm_machine.specs.Codes.{PlainChange}
use Rattle.alarm_machine.specs.Alarms.{PlainAlarm, new_alarm}
use Rattle.std_blocks.specs.Calls.{Call}
use Rattle.alarm_delays.specs.Delays.{counts, kept_scans, scans_each}
use Rattle.alarm_bank.specs.declared.rows.Site.{Site}
use Rattle.alarm_bank.specs.Counted.{Counted}
use Rattle.alarm_bank.specs.Banks.{scan_each, counted}
use Rattle.alarm_bank.specs.Reloads.{alarm_of}
use Rattle.alarm_bank.specs.Moves.{changes_from}
use Rattle.alarm_watch.specs.Watched.{suppression}
use Rattle.engine_history.specs.AlarmRow.{AlarmRow}
use Rattle.engine_history.specs.Plants.{PlainPlant}
use Rattle.engine_history.specs.Names.{globals_of, programs_of}
use Rattle.alarm_machine.specs.declared.limits.TheConstants.{LAST_MOMENT}
use Rattle.engine_system.specs.declared.event.TheConstants.{MOST_EVENTS}
use Rattle.engine_history.specs.declared.event.Event.{Event}
use Rattle.engine_history.specs.declared.event.Event.TheVariants as event
use Rattle.engine_system.specs.declared.event.EngineFault.{EngineFault}
use Rattle.engine_system.specs.declared.event.EngineFault.TheVariants as refusal
use Rattle.alarm_orders.specs.declared.order.Order.{Order}
use Rattle.engine_system.specs.declared.event.Reply.{Reply}
use Rattle.engine_system.specs.declared.state.Effect.{Effect}
use Rattle.level_scans.specs.Scans.{Scanned}
use Rattle.engine_system.specs.Programs.{opening_faulted, global_in, world_after}
use Rattle.engine_system.specs.Image.{image_of}
use Rattle.engine_system.specs.Orders.{order_outcome, unless_old, alarms_by, faulted_by, reply_by}
use Rattle.engine_system.specs.Reloads.{kept_numbers, news_of, numbers_of, same_numbers}

-- the whole state: the plant, the variables' values and the calls of standard blocks, for each program whether it is faulted, the alarms, the scans as each alarm saw them, the last scan's moment, and how many events and how many reloads there were
pub record System : Type 0 where
  pub plant : PlainPlant
  pub world : World
  pub faulted : List Bool
  pub alarms : List PlainAlarm
  pub scans : List (List Call)
  pub moment : ℕ
  pub events : ℕ
  pub reloads : ℕ

-- an alarm before the first event
abbrev pub opening_alarm : AlarmRow → PlainAlarm
opening_alarm row = new_alarm row.latching row.max_shelve_ms

-- before its first scan an alarm has seen none
abbrev pub no_scans : AlarmRow → List Call
no_scans row = []

-- before the first event
abbrev pub opening_system : PlainPlant → System
opening_system plant = record {
  plant = plant;
  world = opening plant.source;
  faulted = opening_faulted (programs_of plant);
  alarms = map opening_alarm plant.alarms;
  scans = map no_scans plant.alarms;
  moment = 0;
  events = 0;
  reloads = 0;
}

-- the conditions of alarms, by the globals' values
abbrev pub conditions : (ℕ → ℤ) → List AlarmRow → List Bool
conditions now rows = map (λ row. is_true (now row.condition)) rows

-- their suppressions
abbrev pub suppressions : (ℕ → ℤ) → List AlarmRow → List Bool
suppressions now rows = map (λ row. suppression now row.suppress) rows

-- their delays
abbrev pub delays_of : List AlarmRow → List ℕ
delays_of rows = map (λ row. row.on_delay_ms) rows

-- the scans as each alarm saw them, with one more at moment t: each sees its own condition
abbrev pub scans_after : (ℕ → ℤ) → ℕ → List AlarmRow → List (List Call) → List (List Call)
scans_after now t rows scans = scans_each (conditions now rows) t (delays_of rows) scans

-- each alarm takes its step by itself, by whether its condition counts, after these scans, and by the value of the global that suppresses it
abbrev pub alarms_after : (ℕ → ℤ) → ℕ → List AlarmRow → List (List Call) → List PlainAlarm → List PlainAlarm
alarms_after now t rows scans alarms = scan_each (map counts scans) (suppressions now rows) t alarms

-- what the programs make of a state's world
abbrev pub scanned_by : System → List (ℕ × Value) → ℕ → Scanned
scanned_by sys image t = world_after sys.plant image t sys.faulted sys.world

-- a scan: the programs, then each alarm
abbrev pub after_scan_event : System → List (ℕ × Value) → ℕ → System
after_scan_event sys image t =
    let logic = scanned_by sys image t in
    let now = global_in (globals_of sys.plant) logic.world in
    let scans = scans_after now t sys.plant.alarms sys.scans in
    record sys { world = logic.world; faulted = logic.faulted; alarms = alarms_after now t sys.plant.alarms scans sys.alarms; scans = scans; moment = t; events = sys.events + 1 }

-- what an order does in a state, or why it is refused
abbrev pub ordered : System → ℕ → Order → Result Effect OrderFault
ordered sys console order = unless_old sys.reloads order (order_outcome sys.plant sys.alarms sys.faulted sys.moment console order)

-- an order: a refused one is an event too, and changes no alarm and no program
abbrev pub after_order_event : System → ℕ → Order → System
after_order_event sys console order =
    let done = ordered sys console order in
    record sys { faulted = faulted_by done sys.faulted; alarms = alarms_by done sys.alarms; events = sys.events + 1 }

-- a reload: the new plant, with what goes over of the variables and the calls of standard blocks, no program faulted, each alarm as it goes on or as before the first event, and the last moment as it is
abbrev pub after_reload_event : System → PlainPlant → System
after_reload_event sys new = record {
  plant = new;
  world = carried sys.plant.source new.source sys.world;
  faulted = opening_faulted (programs_of new);
  alarms = map (alarm_of sys.alarms) (news_of sys.plant new);
  scans = map (kept_scans sys.scans) (kept_numbers sys.plant new);
  moment = sys.moment;
  events = sys.events + 1;
  reloads = sys.reloads + 1;
}

-- one event is one step, by the plant that the system holds
abbrev pub after_event : System → Event → System
after_event sys (event.Scan image t) = after_scan_event sys image t
after_event sys (event.Order console order) = after_order_event sys console order
after_event sys (event.Reload new) = after_reload_event sys new

-- what the events make of the system that begins with a plant
unfoldable pub system : PlainPlant → List Event → System
system plant events = fold after_event (opening_system plant) events

-- the event that a scan is, or its refusal: E2 above the last moment of all, E1 before the last scan's, E3 and E4 by the image, E6 where the history is full
unfoldable pub taken_scan : List Variable → ℕ → ℕ → List PlainPair → ℕ → Result Event EngineFault
taken_scan globals last events pairs t =
    if nat_lt LAST_MOMENT t then Err refusal.MomentRange
    else if nat_lt t last then Err refusal.MomentBack
    else elim (image_of globals pairs) [
      | Err e ↦ Err e
      | Ok image ↦ if nat_le MOST_EVENTS events then Err refusal.HistoryFull else Ok (event.Scan image t)
    ]

-- the event that a scan of these pairs is in a state, or its refusal
abbrev pub scan_event : System → List PlainPair → ℕ → Result Event EngineFault
scan_event sys pairs t = taken_scan (globals_of sys.plant) sys.moment sys.events pairs t

-- the event that an order is, or its refusal: E6 where the history is full
unfoldable pub order_event : System → ℕ → Order → Result Event EngineFault
order_event sys console order = if nat_le MOST_EVENTS sys.events then Err refusal.HistoryFull else Ok (event.Order console order)

-- the event that a reload is after so many events, or its refusal: E7 where the consoles' numbers, in their order, aren't those of the present plant, E8 where the epoch is another, E6 where the history is full
unfoldable pub taken_reload : PlainPlant → ℕ → PlainPlant → Result Event EngineFault
taken_reload plant events new =
    if not (same_numbers (numbers_of plant.consoles) (numbers_of new.consoles)) then Err refusal.ReloadConsoles
    else if not (plant.epoch == new.epoch) then Err refusal.ReloadEpoch
    else if nat_le MOST_EVENTS events then Err refusal.HistoryFull
    else Ok (event.Reload new)

-- the event that a reload is in a state, or its refusal
abbrev pub reload_event : System → PlainPlant → Result Event EngineFault
reload_event sys new = taken_reload sys.plant sys.events new

-- the reply to an order
abbrev pub reply_to : System → ℕ → Order → Reply
reply_to sys console order = reply_by (ordered sys console order) sys.alarms

-- the faults of an event, in program order
abbrev pub faults_of : System → Event → List (Spot × Trap)
faults_of sys (event.Scan image t) = (scanned_by sys image t).faults
faults_of sys (event.Order console order) = []
faults_of sys (event.Reload new) = []

-- the changes of alarms that an event reports; a reload reports none, also of alarms that begin anew
abbrev pub changes_of : System → Event → List (ℕ × PlainChange)
changes_of sys (event.Reload new) = []
changes_of sys e = changes_from 0 sys.alarms (after_event sys e).alarms

-- the area and the priority of each alarm
abbrev pub sites_of : List AlarmRow → List Site
sites_of rows = map (λ row. record { area = row.area; priority = row.priority }) rows

-- the alarms as they are counted in a state: the area and priority of each, and the code that it has now
abbrev pub summary_of : System → List Counted
summary_of sys = counted (sites_of sys.plant.alarms) sys.alarms

-- whether a region is that of outputs
abbrev pub is_output : Option Region → Bool
is_output (Some region.Output) = true
is_output _ = false

-- the outputs and their values, from a number on, in order of declaration
abbrev pub outputs_from : ℕ → List Variable → (ℕ → ℤ) → List (ℕ × Value)
outputs_from n [] now = []
outputs_from n (global ∷ globals) now =
    if is_output global.region then (n, value_of_kind global.kind (now n)) ∷ outputs_from (n + 1) globals now else outputs_from (n + 1) globals now

-- the outputs in a state
abbrev pub outputs_of : System → List (ℕ × Value)
outputs_of sys = outputs_from 0 (globals_of sys.plant) (global_in (globals_of sys.plant) sys.world)

-- the value of an output, if it isn't what it was before
abbrev pub out_at : ℕ → Variable → (ℕ → ℤ) → (ℕ → ℤ) → Option Value
out_at n global before now = if is_output global.region then (if int_eq (before n) (now n) then None else Some (value_of_kind global.kind (now n))) else None

-- the outputs whose value isn't what it was before, from a number on, in order of declaration
abbrev pub outs_from : ℕ → List Variable → (ℕ → ℤ) → (ℕ → ℤ) → List (ℕ × Value)
outs_from n [] before now = []
outs_from n (global ∷ globals) before now = elim (out_at n global before now) [
  | None ↦ outs_from (n + 1) globals before now
  | Some v ↦ (n, v) ∷ outs_from (n + 1) globals before now
]

-- the outputs that an event changed, as it reports them; a reload reports none
abbrev pub outs_of : System → Event → List (ℕ × Value)
outs_of sys (event.Reload new) = []
outs_of sys e = outs_from 0 (globals_of sys.plant) (global_in (globals_of sys.plant) sys.world) (global_in (globals_of sys.plant) (after_event sys e).world)
