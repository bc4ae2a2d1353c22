-- What the server answers to a command, and which events the command adds to the history.
use Rattle.std.specs.Prelude.{◌≡◌, ◌⊎◌, ℕ, ◌+◌, if◌then◌else◌, List, [], ◌∷◌, ◌++◌, length, map, Option, Some, None, Result, Ok, Err, codes}
use Rattle.std.specs.List.{flat_map}
use Rattle.std.specs.Str.{is_utf8}
use Rattle.plant_types.specs.Pairs.{PlainPair}
use Rattle.plant_types.specs.declared.values.Value.{Value}
use Rattle.plant_types.specs.declared.values.Place.{Place}
use Rattle.plant_types.specs.declared.values.Trap.{Trap}
use Rattle.st_tree.specs.Meaning.{Spot}
use Rattle.logic_source.specs.Source.{Source}
use Rattle.logic_source.specs.Paths.{path_text}
use Rattle.engine.specs.VmLogicRuns.{place_spot}
use Rattle.alarm_machine.specs.Codes.{PlainChange}
use Rattle.alarm_machine.specs.declared.states.Verb.{Verb}
use Rattle.engine.specs.Plants.{PlainPlant}
use Rattle.engine.specs.Names.{alarm_number, program_number, tag_of, global_of}
use Rattle.alarm_orders.specs.Orders.{order_with}
use Rattle.engine.specs.Event.{Event}
use Rattle.engine.specs.EngineFault.{EngineFault}
use Rattle.engine.specs.Faults.{fault_text}
use Rattle.engine.specs.Reports.{PlainReport}
use Rattle.alarm_orders.specs.declared.order.Order.{Order as OrderMade}
use Rattle.engine.specs.Reply.{Reply}
use Rattle.engine.specs.Reply.TheVariants as reply
use Rattle.alarm_machine.specs.Orders.{is_restart}
use Rattle.engine.specs.System.{System, system, after_event, scan_event, order_event, reply_to, faults_of, changes_of, outs_of}
use Rattle.engine.specs.Engines.{PlainEngine}
use Rattle.serve_lines.specs.Commands.{PlainCommand, Nothing, Unknown, Scan, Order, Listing, Journal, command_of}
use Rattle.serve_answers.specs.Listings.{list_text, journal_text}
use Rattle.serve_lines.specs.Lines.{fault_line, alarm_line, out_line, done_line, reply_line, refused_line}

-- the number of what a text names: for a restart the program of this name, in any letter case; for every other order the alarm of this tag
abbrev pub named_by : PlainPlant → Verb → List ℕ → Option ℕ
named_by plant verb word = if is_restart verb then program_number plant word else alarm_number plant word

-- the number of what a word names, if there is such a program or alarm; bytes that aren't UTF-8 name none
abbrev pub target_of : PlainPlant → Verb → List ℕ → Option ℕ
target_of plant verb word = if is_utf8 word then named_by plant verb word else None

-- the tag of an alarm, empty where there is none
abbrev pub tag_of_alarm : PlainPlant → Option ℕ → List ℕ
tag_of_alarm plant None = []
tag_of_alarm plant (Some alarm) = tag_of plant alarm

-- the tag of the alarm that an order is for, empty for a restart
abbrev pub tag_for : PlainPlant → OrderMade → List ℕ
tag_for plant order = if is_restart order.verb then [] else tag_of_alarm plant order.target

-- the order for what a word names, in the plant that runs
abbrev pub order_for : System → Verb → List ℕ → OrderMade
order_for sys verb word = order_with verb (target_of sys.plant verb word) sys.reloads

-- ---- the answers to a scan and to an order

-- where each program stopped, by path and statement, and why
abbrev pub spots_of : Source → List (Place × Trap) → List (Spot × Trap)
spots_of source faults = map (λ f. (place_spot source f.0, f.1)) faults

-- a line for each program that stopped, in program order
abbrev pub fault_lines : ℕ → List (Spot × Trap) → List ℕ
fault_lines moment faults = flat_map (λ f. fault_line moment (path_text f.0.path) f.0.statement f.1) faults

-- a line for each alarm whose code changed, in the order of the database
abbrev pub alarm_lines : PlainPlant → ℕ → List (ℕ × PlainChange) → List ℕ
alarm_lines plant moment changes = flat_map (λ c. alarm_line moment (tag_of plant c.0) c.1) changes

-- a line for each output that changed, in order of declaration
abbrev pub out_lines : PlainPlant → ℕ → List (ℕ × Value) → List ℕ
out_lines plant moment outs = flat_map (λ o. out_line moment (global_of plant o.0) o.1) outs

-- the answer to a scan that was taken: its lines, and in DONE how many they are
unfoldable pub report_text : PlainPlant → ℕ → List (Spot × Trap) → List (ℕ × PlainChange) → List (ℕ × Value) → List ℕ
report_text plant moment faults changes outs =
    fault_lines moment faults ++ alarm_lines plant moment changes ++ out_lines plant moment outs
    ++ done_line moment (length faults + length changes + length outs)

-- the answer to a scan of which a report tells
abbrev pub report_lines : PlainPlant → PlainReport → List ℕ
report_lines plant report = report_text plant report.moment (spots_of plant.source report.faults) report.changes report.outs

-- the answer to a scan's event in a state
abbrev pub scan_text : System → Event → List ℕ
scan_text sys e = report_text sys.plant (after_event sys e).moment (faults_of sys e) (changes_of sys e) (outs_of sys e)

-- the ALARM line of this tag, where its code changed
abbrev pub change_line : ℕ → List ℕ → Option PlainChange → List ℕ
change_line moment tag None = []
change_line moment tag (Some change) = alarm_line moment tag change

-- the REPLY to an order, and after OK the ALARM line of its change
unfoldable pub order_text : ℕ → List ℕ → Reply → List ℕ
order_text moment tag (reply.Done change) = reply_line None ++ change_line moment tag change
order_text moment tag (reply.Refused fault) = reply_line (Some fault)

-- the text for an event that was taken, or REFUSED and the number
abbrev pub event_text : Result Event EngineFault → (Event → List ℕ) → List ℕ
event_text (Ok e) text = text e
event_text (Err fault) text = refused_line (fault_text fault)

-- the answer to a scan: that to its event, or REFUSED and the number
abbrev pub scan_answer : System → List PlainPair → ℕ → List ℕ
scan_answer sys pairs moment = event_text (scan_event sys pairs moment) (scan_text sys)

-- the answer to an order: its reply with the moment of the last scan and the tag of its alarm, or REFUSED where the history is full
abbrev pub order_answer : System → ℕ → OrderMade → List ℕ
order_answer sys console order = event_text (order_event sys console order) (λ _. order_text sys.moment (tag_for sys.plant order) (reply_to sys console order))

-- ---- commands

-- the events that are added: one, or none where it is refused
abbrev pub event_added : Result Event EngineFault → List Event
event_added (Ok e) = e ∷ []
event_added (Err fault) = []

-- the event that an order for what a word names is, or its refusal
abbrev pub named_order : System → Verb → ℕ → List ℕ → Result Event EngineFault
named_order sys verb console word = order_event sys console (order_for sys verb word)

-- the events that a command adds, one or none
abbrev pub command_events : System → PlainCommand → List Event
command_events sys Nothing = []
command_events sys Unknown = []
command_events sys (Scan moment pairs) = event_added (scan_event sys pairs moment)
command_events sys (Order verb console word) = event_added (named_order sys verb console word)
command_events sys Listing = []
command_events sys Journal = []

-- the answer to a command, after a history and in the state that it left
abbrev pub command_answer : PlainPlant → List Event → System → PlainCommand → List ℕ
command_answer plant history sys Nothing = []
command_answer plant history sys Unknown = refused_line (codes "L1")
command_answer plant history sys (Scan moment pairs) = scan_answer sys pairs moment
command_answer plant history sys (Order verb console word) = order_answer sys console (order_for sys verb word)
command_answer plant history sys Listing = list_text sys
command_answer plant history sys Journal = journal_text plant history

-- the history after a command
unfoldable pub after_command : PlainPlant → List Event → PlainCommand → List Event
after_command plant history command = history ++ command_events (system plant history) command

-- the answer to a command after a history
unfoldable pub answer_after : PlainPlant → List Event → PlainCommand → List ℕ
answer_after plant history command = command_answer plant history (system plant history) command

-- ---- what an engine did

-- an event was added to an engine's history; none where it is refused
abbrev pub HasAdded : (e₀ e₁ : PlainEngine) → Result Event EngineFault → Type 0
HasAdded e₀ e₁ event = e₁.history ≡ e₀.history ++ event_added event

-- an event was added, or the history is as before
abbrev pub MayHaveAdded : (e₀ e₁ : PlainEngine) → Result Event EngineFault → Type 0
MayHaveAdded e₀ e₁ event = (e₁.history ≡ e₀.history) ⊎ HasAdded e₀ e₁ event

-- the history after what a line asks of an engine
abbrev pub history_after : PlainEngine → List ℕ → List Event
history_after engine line = after_command engine.plant engine.history (command_of line)

-- the answer to what a line asks of an engine
abbrev pub line_answer : PlainEngine → List ℕ → List ℕ
line_answer engine line = answer_after engine.plant engine.history (command_of line)
