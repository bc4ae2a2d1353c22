-- The entries of a history, as a board takes them in: event by event, from the system's state before it.
use Rattle.std.specs.Prelude.{ℕ, List, [], ◌∷◌, map, Option, Result, Ok, Err}
use Rattle.plant_types.specs.declared.values.Value.{Value}
use Rattle.alarm_machine.specs.declared.states.OrderFault.{OrderFault}
use Rattle.alarm_machine.specs.Codes.{PlainChange}
use Rattle.alarm_bank.specs.Banks.{PlainBank}
use Rattle.alarm_bank.specs.Reloads.{PlainAnnunciator}
use Rattle.alarm_bank.specs.declared.event.BankEvent.{BankEvent}
use Rattle.alarm_bank.specs.declared.event.BankEvent.TheVariants as bank_event
use Rattle.alarm_delays.specs.Delays.{counts}
use Rattle.engine.specs.Event.{Event}
use Rattle.engine.specs.Event.TheVariants as event
use Rattle.plant_file.specs.declared.console.ListedConsole.{ListedConsole}
use Rattle.engine.specs.Plants.{PlainPlant}
use Rattle.engine.specs.Names.{globals_of}
use Rattle.engine.specs.Reply.{Reply}
use Rattle.engine.specs.Reply.TheVariants as reply
use Rattle.engine.specs.Programs.{global_in}
use Rattle.engine.specs.Reloads.{news_of}
use Rattle.engine.specs.System.{System, opening_system, after_event, scans_after, suppressions, scanned_by, reply_to, sites_of}
use Rattle.console_boards.specs.declared.entry.BoardEntry.{BoardEntry}
use Rattle.console_boards.specs.declared.entry.BoardEntry.TheVariants as entry
use Rattle.console_boards.specs.declared.picture.Picture.{Picture}
use Rattle.console_boards.specs.Stories.{Story}

-- a reply, as a board has it
abbrev pub board_reply : Reply → Result (Option PlainChange) OrderFault
board_reply (reply.Done change) = Ok change
board_reply (reply.Refused fault) = Err fault

-- what a scan gives to the alarms in a state: which conditions count, and the suppressions, by what its programs leave
abbrev pub given_by : System → List (ℕ × Value) → ℕ → BankEvent
given_by sys image t =
    let now = global_in (globals_of sys.plant) (scanned_by sys image t).world in
    bank_event.Scan t (map counts (scans_after now t sys.plant.alarms sys.scans)) (suppressions now sys.plant.alarms)

-- the entry of an event in a state: of a scan what it gives to the alarms, of an order its console and the reply there, of a reload the alarms of the new plant
abbrev pub entry_of : System → Event → BoardEntry
entry_of sys (event.Scan image t) = entry.Scan (given_by sys image t)
entry_of sys (event.Order console order) = entry.Order console (record { order = order; reply = board_reply (reply_to sys console order) })
entry_of sys (event.Reload new) = entry.Reload (news_of sys.plant new)

-- the entries of events that come one after another from a state on
abbrev pub entries_from : System → List Event → List BoardEntry
entries_from sys [] = []
entries_from sys (e ∷ events) = entry_of sys e ∷ entries_from (after_event sys e) events

-- the entries of a history
unfoldable pub entries_of : PlainPlant → List Event → List BoardEntry
entries_of plant history = entries_from (opening_system plant) history

-- the alarms of a system, as a bank has them
abbrev pub bank_of : System → PlainBank
bank_of sys = record { sites = sites_of sys.plant.alarms; alarms = sys.alarms; moment = sys.moment }

-- the alarms of a system in a board's places: there are as many as a plant may have alarms
abbrev pub panel_of : System → PlainAnnunciator
panel_of sys = record { bank = bank_of sys; places = 20000 }

-- the consoles whose orders the board of a plant counts: all that the plant lists
abbrev pub counted_consoles : List ListedConsole → List ℕ
counted_consoles consoles = map (λ (console : ListedConsole). console.number) consoles

-- what the board of a system shows: its alarms with their places, and the numbers of the consoles whose orders it counts
abbrev pub picture_of : System → Picture
picture_of sys = record { panel = panel_of sys; consoles = counted_consoles sys.plant.consoles }

-- what a board shows of a history: the picture as the plant opens, and its entries
abbrev pub history_story : PlainPlant → List Event → Story Picture BoardEntry
history_story plant history = (picture_of (opening_system plant), entries_of plant history)
