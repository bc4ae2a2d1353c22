-- What the rows of a journal tell of the alarms since a state, and the list of alarms that they make.
use Rattle.std.specs.Prelude.{◌≡◌, ℕ, ◌+◌, if◌then◌else◌, List, [], ◌∷◌, ◌++◌, length, map, fold, slice_get, Some}
use Rattle.std.specs.Option.{option_map_or}
use Rattle.std.specs.Str.{bytes_eq}
use Rattle.alarm_machine.specs.declared.states.Code.{Code}
use Rattle.alarm_machine.specs.declared.states.Code.TheVariants as code
use Rattle.alarm_machine.specs.Codes.{PlainChange, code_of, same_code}
use Rattle.alarm_machine.specs.Alarms.{PlainAlarm}
use Rattle.alarm_bank.specs.Counted.{Counted}
use Rattle.serve_lines.specs.Lines.{state_line}
use Rattle.plant_config.specs.declared.rows.AlarmRow.{AlarmRow}
use Rattle.plant_config.specs.Plants.{PlainPlant, IsPlant}
use Rattle.plant_config.specs.Names.{alarm_number, tag_of, priority_of}
use Rattle.engine_history.specs.declared.event.Event.{Event}
use Rattle.engine_history.specs.Reloads.{NoReload}
use Rattle.engine_system.specs.System.{System, system}
use Rattle.serve_session.specs.Journal.{NamedEntry, NamedRow, ChangeOf, journal_from, journal_of}
use Rattle.serve_session.specs.Listings.{with_end, lines_below, count_lines, state_lines, list_text}

-- the code of the alarm with a tag after an entry, by its code before: a change of this alarm leads to another, and nothing else does
abbrev pub code_told : List ℕ → Code → NamedEntry → Code
code_told tag before (ChangeOf changed change) = if bytes_eq changed tag then change.to else before
code_told tag before _ = before

-- the code of the alarm with a tag after rows, by its code before them
abbrev pub code_after : List ℕ → Code → List NamedRow → Code
code_after tag before rows = fold (λ c row. code_told tag c row.entry) before rows

-- the code of the alarm of a number, NORM where there is none
abbrev pub code_at : ℕ → List PlainAlarm → Code
code_at n alarms = option_map_or (λ (a : PlainAlarm). code_of a.state) (slice_get alarms n) code.Norm

-- the code that the alarm with a tag has in a state, NORM where there is none
abbrev pub code_in : System → List ℕ → Code
code_in sys tag = option_map_or (λ n. code_at n sys.alarms) (alarm_number sys.plant tag) code.Norm

-- the code of the alarm with a tag by the rows since a state: the last change of this tag among them leads to it, and where there is none it is that of the state
abbrev pub told_code : System → List NamedRow → List ℕ → Code
told_code sys rows tag = code_after tag (code_in sys tag) rows

-- the rows that later events add to the journal of a history
abbrev pub rows_since : PlainPlant → List Event → List Event → List NamedRow
rows_since plant past later = journal_from (length (journal_of plant past) + 1) (system plant past) later

-- the STATE line of an alarm that has a code; none where it is NORM
abbrev pub code_line : PlainPlant → ℕ → Code → List (List ℕ)
code_line plant alarm c = if same_code c code.Norm then [] else state_line (tag_of plant alarm) c (priority_of plant alarm) ∷ []

-- a STATE line for each alarm that isn't NORM by the rows since a state, in the order of the database
abbrev pub told_lines : System → List NamedRow → List (List ℕ)
told_lines sys rows = lines_below (λ alarm. code_line sys.plant alarm (told_code sys rows (tag_of sys.plant alarm))) (length sys.plant.alarms)

-- an alarm as it is counted: its area and priority, and the code that it has by the rows since a state
abbrev pub told_alarm : System → List NamedRow → AlarmRow → Counted
told_alarm sys rows alarm = record { area = alarm.area; priority = alarm.priority; code = told_code sys rows alarm.tag }

-- the answer to `list` that the rows since a state make
abbrev pub told_list : System → List NamedRow → List ℕ
told_list sys rows = with_end (told_lines sys rows ++ count_lines sys.plant (map (told_alarm sys rows) sys.plant.alarms))

-- ---- laws

-- the rows that later events without a reload add tell the code of each alarm: it is the one to which they lead from the code before them
abbrev pub CodesAreTold : Type 0
CodesAreTold = (plant : PlainPlant) (past later : List Event) (alarm : ℕ) (a : PlainAlarm) → IsPlant (system plant past).plant → NoReload later
    → slice_get (system plant (past ++ later)).alarms alarm ≡ Some a
    → code_of a.state ≡ told_code (system plant past) (rows_since plant past later) (tag_of (system plant past).plant alarm)

-- each change among such rows goes from the code that the rows before it tell
abbrev pub ChangesAreTold : Type 0
ChangesAreTold = (plant : PlainPlant) (past later : List Event) (before : List NamedRow) (row : NamedRow) (after : List NamedRow) (tag : List ℕ) (change : PlainChange)
    → IsPlant (system plant past).plant → NoReload later
    → rows_since plant past later ≡ before ++ row ∷ after → row.entry ≡ ChangeOf tag change → change.from ≡ told_code (system plant past) before tag

-- the rows that later events add come after those of the history before them
abbrev pub RowsAreAdded : Type 0
RowsAreAdded = (plant : PlainPlant) (past later : List Event) → journal_of plant (past ++ later) ≡ journal_of plant past ++ rows_since plant past later

-- before the first event every alarm is NORM
abbrev pub BeginNormal : Type 0
BeginNormal = (plant : PlainPlant) (tag : List ℕ) → code_in (system plant []) tag ≡ code.Norm

-- the rows that later events without a reload add make the STATE lines
abbrev pub LinesAreTold : Type 0
LinesAreTold = (plant : PlainPlant) (past later : List Event) → IsPlant (system plant past).plant → NoReload later
    → state_lines (system plant (past ++ later)) ≡ told_lines (system plant past) (rows_since plant past later)

-- and they make the answer to `list`
abbrev pub ListIsTold : Type 0
ListIsTold = (plant : PlainPlant) (past later : List Event) → IsPlant (system plant past).plant → NoReload later
    → list_text (system plant (past ++ later)) ≡ told_list (system plant past) (rows_since plant past later)
