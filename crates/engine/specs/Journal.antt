-- The journal of a history: the rows that its events add, by names.
use Rattle.std.specs.Prelude.{◌≡◌, ℕ, ◌+◌, ◌-◌, ◌<◌, slice_get, List, [], ◌∷◌, ◌++◌, length, map, replicate, if◌then◌else◌, Option, Some, None, Result, Ok, Err, codes}
use Rattle.std.specs.Option.{option_map}
use Rattle.std.specs.Fmt.{decimal}
use Rattle.base_stamps.specs.Stamps.{stamp}
use Rattle.plant_types.specs.declared.values.Trap.{Trap}
use Rattle.alarm_machine.specs.declared.states.Verb.{Verb}
use Rattle.alarm_machine.specs.declared.states.OrderFault.{OrderFault}
use Rattle.alarm_machine.specs.declared.states.OrderFault.TheVariants as fault
use Rattle.alarm_machine.specs.Codes.{PlainChange}
use Rattle.alarm_machine.specs.Alarms.{PlainAlarm}
use Rattle.st_tree.specs.Meaning.{Spot}
use Rattle.logic_source.specs.Paths.{path_text}
use Rattle.engine_system.specs.VmLogicRuns.{place_spot}
use Rattle.journal_core.specs.declared.row.Entry.{Entry}
use Rattle.journal_core.specs.declared.row.Entry.TheVariants as entry
use Rattle.journal_core.specs.declared.row.Row.{Row}
use Rattle.journal_core.specs.Rows.{fault_entry, change_entry}
use Rattle.journal_core.specs.Bodies.{fault_body, alarm_body, order_body, reload_body}
use Rattle.engine_system.specs.Plants.{PlainPlant}
use Rattle.engine_system.specs.Names.{programs_of, body_paths, tag_of, program_at, body_path}
use Rattle.engine_system.specs.Event.{Event}
use Rattle.engine_system.specs.Event.TheVariants as event
use Rattle.alarm_orders.specs.declared.order.Order.{Order}
use Rattle.engine_system.specs.declared.state.Effect.{Effect}
use Rattle.engine_system.specs.Reports.{PlainReport}
use Rattle.alarm_machine.specs.Orders.{is_restart}
use Rattle.engine_system.specs.Orders.{changed_by}
use Rattle.engine_system.specs.Reloads.{kept_numbers, kept_count, fresh_count}
use Rattle.engine_system.specs.System.{System, opening_system, after_event, ordered, faults_of, changes_of}

-- what a row tells, by names alone: a program's fault at a spot, the change of the code of the alarm with a tag, an order of a console, the name of its target if there is one, and why it was refused, if it was, or a reload: how many alarms kept their states and how many are new
pub data NamedEntry : Type 0 where
  FaultAt : Spot → Trap → NamedEntry
  ChangeOf : List ℕ → PlainChange → NamedEntry
  OrderBy : ℕ → Verb → Option (List ℕ) → Option OrderFault → NamedEntry
  ReloadOf : ℕ → ℕ → NamedEntry

-- a row by names: its number, the moment of its event, and what it tells
pub record NamedRow : Type 0 where
  pub number : ℕ
  pub moment : ℕ
  pub entry : NamedEntry

-- the name of an order's target, as declared: a program's for a restart, else an alarm's tag
abbrev pub target_name : PlainPlant → Verb → ℕ → List ℕ
target_name plant verb n = if is_restart verb then program_at plant n else tag_of plant n

-- the name that an order's row has for its target; none where the order was refused because there is no target, or because it was made for an older plant
abbrev pub order_target : PlainPlant → Verb → Option ℕ → Option OrderFault → Option (List ℕ)
order_target plant verb target (Some fault.UnknownTarget) = None
order_target plant verb target (Some fault.OldPlant) = None
order_target plant verb target refused = option_map (target_name plant verb) target

-- the change of an alarm's code, by the alarm's tag
abbrev pub named_change : PlainPlant → (ℕ × PlainChange) → NamedEntry
named_change plant change = ChangeOf (tag_of plant change.0) change.1

-- an order of a console, by the name of its target
abbrev pub named_order : PlainPlant → ℕ → Verb → Option ℕ → Option OrderFault → NamedEntry
named_order plant console verb target refused = OrderBy console verb (order_target plant verb target refused) refused

-- an entry by the names of a plant: a fault's place is the spot that it has in the source
abbrev pub named_entry : PlainPlant → Entry → NamedEntry
named_entry plant (entry.Fault place trap) = FaultAt (place_spot plant.source place) trap
named_entry plant (entry.Alarm alarm change) = named_change plant (alarm, change)
named_entry plant (entry.Order console verb target refused) = named_order plant console verb target refused
named_entry plant (entry.Reload kept fresh) = ReloadOf kept fresh

-- a row by the names of a plant
abbrev pub named_row : PlainPlant → Row → NamedRow
named_row plant row = record { number = row.number; moment = row.moment; entry = named_entry plant row.entry }

-- the target of an order, as it is printed: its name, `?` where there is none
abbrev pub target_text : Option (List ℕ) → List ℕ
target_text None = codes "?"
target_text (Some name) = name

-- the body of a row by names
abbrev pub entry_text : NamedEntry → List ℕ
entry_text (FaultAt spot trap) = fault_body (path_text spot.path) spot.statement trap
entry_text (ChangeOf tag change) = alarm_body tag change
entry_text (OrderBy console verb target refused) = order_body console verb (target_text target) refused
entry_text (ReloadOf kept fresh) = reload_body kept fresh

-- the text of a row by names, of a journal with this epoch: `NUMBER STAMP BODY`
abbrev pub named_text : ℕ → NamedRow → List ℕ
named_text epoch row = decimal row.number ++ codes " " ++ stamp epoch row.moment ++ codes " " ++ entry_text row.entry

-- why an order is refused, if it is
abbrev pub refusal_of : Result Effect OrderFault → Option OrderFault
refusal_of (Ok effect) = None
refusal_of (Err fault) = Some fault

-- a list of one thing or none
abbrev pub one_or_none : {A : Type 0} → Option A → List A
one_or_none None = []
one_or_none (Some a) = a ∷ []

-- the entries for faults
abbrev pub fault_entries : List (Spot × Trap) → List NamedEntry
fault_entries faults = map (λ (f : Spot × Trap). FaultAt f.0 f.1) faults

-- the entries for changes of alarms' codes
abbrev pub change_entries : PlainPlant → List (ℕ × PlainChange) → List NamedEntry
change_entries plant changes = map (named_change plant) changes

-- the entry that a reload adds: how many alarms of the new plant keep their states, and how many are new
abbrev pub reload_entry : PlainPlant → PlainPlant → NamedEntry
reload_entry old new = let kept = kept_numbers old new in ReloadOf (kept_count kept) (fresh_count kept)

-- the entries that an event adds, by the names of the plant that the system has at that time: a scan its faults in program order, an order itself with its reply; then the changes of alarms' codes in the order of the database. A reload adds itself alone
abbrev pub added_entries : System → Event → List NamedEntry
added_entries sys (event.Scan image t) = fault_entries (faults_of sys (event.Scan image t)) ++ change_entries sys.plant (changes_of sys (event.Scan image t))
added_entries sys (event.Order console order) = named_order sys.plant console order.verb order.target (refusal_of (ordered sys console order)) ∷ change_entries sys.plant (changes_of sys (event.Order console order))
added_entries sys (event.Reload new) = reload_entry sys.plant new ∷ []

-- the entries that a scan's report has, with the places of its faults
abbrev pub scan_entries : PlainReport → List Entry
scan_entries r = map fault_entry r.faults ++ map change_entry r.changes

-- the entries for an order, by what it does to alarms
abbrev pub order_entries : ℕ → Order → Result Effect OrderFault → List PlainAlarm → List Entry
order_entries console order done alarms = entry.Order console order.verb order.target (refusal_of done) ∷ map change_entry (one_or_none (changed_by done alarms))

-- rows of one moment for entries, numbered from a number on
abbrev pub rows_from : ℕ → ℕ → List NamedEntry → List NamedRow
rows_from n moment [] = []
rows_from n moment (entry ∷ entries) = record { number = n; moment = moment; entry = entry } ∷ rows_from (n + 1) moment entries

-- the rows that an event adds in a state, numbered from a number on: each bears the last scan's moment, a scan's rows its own
abbrev pub added_rows : ℕ → System → Event → List NamedRow
added_rows n sys e = rows_from n (after_event sys e).moment (added_entries sys e)

-- the rows that events add from a state on, numbered from a number on
abbrev pub journal_from : ℕ → System → List Event → List NamedRow
journal_from n sys [] = []
journal_from n sys (e ∷ events) = added_rows n sys e ++ journal_from (n + length (added_entries sys e)) (after_event sys e) events

-- the journal of a history: the rows of all its events, numbered from 1, each by the names that its event's plant had
unfoldable pub journal_of : PlainPlant → List Event → List NamedRow
journal_of plant history = journal_from 1 (opening_system plant) history

-- the target of an order is there: a program for a restart, else an alarm
abbrev pub HasTarget : PlainPlant → Verb → ℕ → Type 0
HasTarget plant verb n = n < (if is_restart verb then length (programs_of plant) else length plant.alarms)

-- the plant has what an entry names by number: the path of a fault, an alarm, and the target of an order that isn't refused for want of it or as made for an older plant
abbrev pub IsNamed : PlainPlant → Entry → Type 0
IsNamed plant (entry.Fault place trap) = place.path < length (body_paths plant)
IsNamed plant (entry.Alarm alarm change) = alarm < length plant.alarms
IsNamed plant (entry.Order console verb target (Some fault.UnknownTarget)) = Unit {0}
IsNamed plant (entry.Order console verb target (Some fault.OldPlant)) = Unit {0}
IsNamed plant (entry.Order console verb target refused) = (n : ℕ) × (target ≡ Some n) × HasTarget plant verb n
IsNamed plant (entry.Reload kept fresh) = Unit {0}

-- for each row that events add from a state on, the plant that the system had when it was added
abbrev pub plants_from : System → List Event → List PlainPlant
plants_from sys [] = []
plants_from sys (e ∷ events) = replicate (length (added_entries sys e)) sys.plant ++ plants_from (after_event sys e) events

-- for each row of a journal the plant whose names it has
unfoldable pub row_plants : PlainPlant → List Event → List PlainPlant
row_plants plant history = plants_from (opening_system plant) history

-- rows by the names of plants, one plant for each
abbrev pub named_rows : List PlainPlant → List Row → List NamedRow
named_rows [] rows = []
named_rows (plant ∷ plants) [] = []
named_rows (plant ∷ plants) (row ∷ rows) = named_row plant row ∷ named_rows plants rows

-- each plant has what its row names
abbrev pub AreNamed : List PlainPlant → List Row → Type 0
AreNamed [] [] = Unit {0}
AreNamed [] (row ∷ rows) = ⊥
AreNamed (plant ∷ plants) [] = ⊥
AreNamed (plant ∷ plants) (row ∷ rows) = IsNamed plant row.entry × AreNamed plants rows

-- the rows of a log, each by the names of the plant that the system had when it was added, are the journal of a history, and that plant has what the row names
pub record IsJournal (plant : PlainPlant) (history : List Event) (rows : List Row) : Type 0 where
  pub rows_are : named_rows (row_plants plant history) rows ≡ journal_of plant history
  pub named : AreNamed (row_plants plant history) rows

-- the name with which an entry of a plant is printed: a fault's path, an alarm's tag, an order's target; a reload has none
abbrev pub name_of : PlainPlant → Entry → List ℕ
name_of plant (entry.Fault place trap) = body_path plant place.path
name_of plant (entry.Alarm alarm change) = tag_of plant alarm
name_of plant (entry.Order console verb target refused) = target_text (order_target plant verb target refused)
name_of plant (entry.Reload kept fresh) = []

-- the line of a number in a journal with this epoch is the text of the row of that number
pub record IsLine (epoch : ℕ) (journal : List NamedRow) (number : ℕ) (text : List ℕ) : Type 0 where
  pub row : NamedRow
  pub row_is : slice_get journal (number - 1) ≡ Some row
  pub text_is : text ≡ named_text epoch row
