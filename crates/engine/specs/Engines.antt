-- What an engine shows and keeps, when something made ready fits it, and what a scan that is taken does to it.
use Rattle.std.specs.Prelude.{◌≡◌, ℕ, ◌+◌, ◌≤◌, ◌⊎◌, List, [], ◌∷◌, ◌++◌, length, All, Ok, Err, refl}
use Rattle.std.specs.Coded.{Coded, code_by, coded×, coded_list, coded_ℕ}
use Rattle.plant_types.specs.Pairs.{PlainPair}
use Rattle.plant_types.specs.declared.values.Value.{Value}
use Rattle.journal_core.specs.declared.row.Row.{Row}
use Rattle.engine_system.specs.Plants.{PlainPlant, IsPlant}
use Rattle.engine_system.specs.Code.{plant_code}
use Rattle.alarm_machine.specs.declared.limits.TheConstants.{LAST_MOMENT}
use Rattle.alarm_bank.specs.Moves.{put_all}
use Rattle.engine_system.specs.Event.{Event}
use Rattle.engine_system.specs.Event.TheVariants as event
use Rattle.engine_system.specs.EngineHistoryEvent as event_row
use Rattle.engine_system.specs.Reports.{PlainReport}
use Rattle.engine_system.specs.States.{PlainState, PlainPrepared, PlainPreparedOrder, IsState, IsReport, after_effect}
use Rattle.engine_system.specs.System.{System, system, after_event, scan_event, reload_event, ordered, reply_to}
use Rattle.engine_system.specs.declared.event.EngineFault.{EngineFault}
use Rattle.engine_system.specs.declared.event.EngineFault.TheVariants as refusal
use Rattle.engine.specs.Lawful.{IsTaken, IsLawfulHistory}
use Rattle.engine_system.specs.Reloads.{fresh_count, kept_count, kept_numbers}
use Rattle.engine.specs.RowNames.{HaveNames}
use Rattle.engine.specs.Journal.{IsJournal, journal_of, row_plants}

-- the plant with which it began, the events so far, for how many more rows of the journal there is room, and how many rows have names that are kept apart from the plant
pub record PlainEngine : Type 0 where
  pub plant : PlainPlant
  pub history : List Event
  pub row_room : ℕ
  pub named : ℕ

-- the state of an engine's system
abbrev pub state_of : PlainEngine → System
state_of e = system e.plant e.history

-- a code of what an engine shows
abbrev pub engine_code : Coded PlainEngine
engine_code =
    code_by (PlainPlant × (List Event × (ℕ × ℕ))) (coded× plant_code (coded× (coded_list event_row.the_row.coded) (coded× coded_ℕ coded_ℕ)))
    (λ e. (e.plant, (e.history, (e.row_room, e.named)))) (λ p. record { plant = p.0; history = p.1.0; row_room = p.1.1.0; named = p.1.1.1 }) (λ _. refl)

-- a scan was taken: its event is the last of the history, and the report is what it did
pub record TakesScan (old new : PlainEngine) (pairs : List PlainPair) (t : ℕ) (r : PlainReport) : Type 0 where
  pub event : Event
  pub event_is : scan_event (state_of old) pairs t ≡ Ok event
  pub history_is : new.history ≡ old.history ++ event ∷ []
  pub report_is : IsReport (state_of old) event r

-- an engine may commit a scan that was made ready: there is room for its rows, its event is a scan at the moment of its report, it is what that event makes of this engine's state, and the event was taken there
pub record Fits (e : PlainEngine) (p : PlainPrepared) : Type 0 where
  pub image : List (ℕ × Value)
  pub event_is : p.event ≡ event.Scan image p.report.moment
  pub effect_is : (k : PlainState) → IsState (state_of e) k → IsState (after_event (state_of e) p.event) (after_effect p.effect k)
  pub in_range : p.effect.moment ≤ LAST_MOMENT
  pub report_is : IsReport (state_of e) p.event p.report
  pub taken : IsTaken (state_of e) p.event
  pub row_room : length p.report.faults + length p.report.changes ≤ e.row_room

-- the alarms, with those in their places that a scan moves which was made ready, are those of the system after it
abbrev pub LeavesAlarms : PlainEngine → PlainPrepared → Type 0
LeavesAlarms e p = put_all (state_of e).alarms p.effect.moved ≡ (after_event (state_of e) p.event).alarms

-- an engine may commit an order that was made ready: there is room for two rows, that is what the order does in this engine's state, and the order was taken there
pub record FitsOrder (e : PlainEngine) (p : PlainPreparedOrder) : Type 0 where
  pub done_is : p.done ≡ ordered (state_of e) p.console p.order
  pub reply_is : p.reply ≡ reply_to (state_of e) p.console p.order
  pub taken : IsTaken (state_of e) (event.Order p.console p.order)
  pub row_room : 2 ≤ e.row_room

-- a reload that was made ready: the new plant, what is kept after it, how many alarms go on, and how many begin anew
pub record PlainPreparedReload : Type 0 where
  pub plant : PlainPlant
  pub state : PlainState
  pub kept : ℕ
  pub fresh : ℕ

-- what is told of a reload: how many alarms keep their states, and how many are new
pub record TellsReload (sys : System) (new : PlainPlant) (kept fresh : ℕ) : Type 0 where
  pub kept_is : kept ≡ kept_count (kept_numbers sys.plant new)
  pub fresh_is : fresh ≡ fresh_count (kept_numbers sys.plant new)

-- a reload is refused for want of memory, or as it is due
abbrev pub IsReloadRefusal : System → PlainPlant → EngineFault → Type 0
IsReloadRefusal sys new fault = (fault ≡ refusal.Memory) ⊎ (reload_event sys new ≡ Err fault)

-- an engine may commit a reload that was made ready: it is what the reload makes of this engine's state, the reload was taken there, there is room for its row, and the names of all rows before it are kept
pub record FitsReload (e : PlainEngine) (p : PlainPreparedReload) : Type 0 where
  pub state_is : IsState (after_event (state_of e) (event.Reload p.plant)) p.state
  pub told : TellsReload (state_of e) p.plant p.kept p.fresh
  pub taken : IsTaken (state_of e) (event.Reload p.plant)
  pub row_room : 1 ≤ e.row_room
  pub named : e.named ≡ length (journal_of e.plant e.history)

-- what an engine keeps is what the system after its history has, its plant is the system's, the history is lawful and the plant with which it began keeps the rules of plants, the rows are the journal, none of them later than the last scan, and each has its name
pub record IsEngine (began : PlainPlant) (history : List Event) (rows : List Row) (k : PlainState) (plant : PlainPlant) (names : List (List ℕ)) : Type 0 where
  pub state_is : IsState (system began history) k
  pub present : (system began history).plant ≡ plant
  pub plant_is : IsPlant began
  pub lawful : IsLawfulHistory began history
  pub journal : IsJournal began history rows
  pub have_names : HaveNames (row_plants began history) rows names plant
  pub until : All (λ row. row.moment ≤ k.moment) rows
