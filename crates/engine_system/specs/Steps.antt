-- The parts of a scan over cells.
use Rattle.std.specs.Prelude.{◌≡◌, ℕ, ◌<◌, ◌≤◌, ℤ, Bool, true, not, List, length, fold, slice_get, All, Some, Ok}
use Rattle.std.specs.Ordering.{int_eq}
use Rattle.plant_types.specs.declared.values.Value.{Value}
use Rattle.plant_types.specs.Pairs.{PlainPair}
use Rattle.plant_types.specs.Values.{kind_of, worth, value_of_kind, is_in_range}
use Rattle.logic_source.specs.declared.logic.Variable.{Variable}
use Rattle.logic_source.specs.Source.{Source}
use Rattle.logic_source.specs.Worlds.{World}
use Rattle.logic_source.specs.Ranges.{AllInRange}
use Rattle.logic_source.specs.Paths.{paths_of}
use Rattle.logic_cells.specs.Cells.{PlainCells, value_at, assigned}
use Rattle.level_scans.specs.Stands.{StandFor}
use Rattle.engine_history.specs.Plants.{IsPlant, PlainPlant}
use Rattle.engine_history.specs.Names.{globals_of, programs_of}
use Rattle.level_scans.specs.Sound.{IsSound}
use Rattle.alarm_bank.specs.Moves.{changes_from}
use Rattle.alarm_machine.specs.declared.limits.TheConstants.{LAST_MOMENT}
use Rattle.engine_history.specs.declared.event.Event.TheVariants as event
use Rattle.engine_system.specs.Reports.{PlainReport}
use Rattle.level_scans.specs.Runs.{ProgramsRanInOrder}
use Rattle.engine_system.specs.Reloads.{fresh_count, kept_count, kept_numbers}
use Rattle.engine_system.specs.declared.reloading.ReadyReload.{ReadyReload}
use Rattle.engine_system.specs.System.{System, after_reload_event, taken_scan, delays_of, outputs_from, outs_from}
use Rattle.engine_system.specs.Watches.{watches_of}
use Rattle.engine_system.specs.States.{IsState, PlainState, PlainPrepared, PlainPreparedOrder, after_effect}
use Rattle.alarm_orders.specs.declared.order.Order.{Order}
use Rattle.alarm_delays.specs.Delays.{after_conditions}
use Rattle.alarm_watch.specs.Watched.{Follow, alarms_watched, watched_conditions}
use Rattle.engine_system.specs.Orders.{order_outcome, unless_old, reply_by}

-- an output, with the value that it has now
abbrev pub output_in : (ℕ → ℤ) → ℕ × Value → ℕ × Value
output_in now output = (output.0, value_of_kind (kind_of output.1) (now output.0))

-- the number that an output has now is in the range of its kind
abbrev pub IsShowable : (ℕ → ℤ) → ℕ × Value → Type 0
IsShowable now output = is_in_range (kind_of output.1) (now output.0) ≡ true

-- the number that each global has now is in the range of its kind
abbrev pub AreShowable : List Variable → (ℕ → ℤ) → Type 0
AreShowable globals now = (n : ℕ) (global : Variable) → slice_get globals n ≡ Some global → is_in_range global.kind (now n) ≡ true

-- cells stand for a world in which each value is in the range of its kind
pub record StandInRange (source : Source) (cells : PlainCells) : Type 0 where
  pub world : World
  pub stands : StandFor source cells world
  pub in_range : AllInRange source world

-- what the parts of an event ask of a plant and of what is kept
pub record IsReady (plant : PlainPlant) (k : PlainState) : Type 0 where
  pub sound : IsSound plant.source
  pub programs : length k.faulted ≡ length (programs_of plant)
  pub alarms : length k.alarms ≡ length plant.alarms
  pub watches : k.watches ≡ watches_of plant.alarms
  pub delays : k.delays.delays ≡ delays_of plant.alarms
  pub since : length k.delays.since ≡ length plant.alarms
  pub last : k.delays.last ≡ k.moment
  pub follow : k.follows ≡ true → Follow (value_at k.cells) k.watches k.delays k.alarms
  pub outputs : k.outputs ≡ outputs_from 0 (globals_of plant) (value_at k.cells)
  pub values : StandInRange plant.source k.cells

-- whether the number of an output isn't what it was before
abbrev pub differs : (ℕ → ℤ) → (ℕ → ℤ) → ℕ × Value → Bool
differs before now output = not (int_eq (before output.0) (now output.0))

-- an input gets its value
abbrev pub with_cell : PlainCells → ℕ × Value → PlainCells
with_cell cells input = assigned cells input.0 (worth input.1)

-- what a scan with an image at moment t leaves and reports
pub record ScanRan (plant : PlainPlant) (old : PlainState) (image : List (ℕ × Value)) (t : ℕ) (new : PlainState) (r : PlainReport) : Type 0 where
  pub programs : ProgramsRanInOrder plant.source t (fold with_cell old.cells image) old.faulted new.cells new.faulted r.faults
  pub faults_within : All (λ f. f.0.path < length (paths_of plant.source)) r.faults
  pub sites_are : new.sites ≡ old.sites
  pub watches_are : new.watches ≡ old.watches
  pub reloads_are : new.reloads ≡ old.reloads
  pub follow : Follow (value_at new.cells) new.watches new.delays new.alarms
  pub alarms_are : new.alarms ≡ alarms_watched (value_at new.cells) t old.watches old.delays old.alarms
  pub delays_are : new.delays ≡ after_conditions (watched_conditions (value_at new.cells) old.watches) t old.delays
  pub changes_are : r.changes ≡ changes_from 0 old.alarms new.alarms
  pub outputs_are : new.outputs ≡ outputs_from 0 (globals_of plant) (value_at new.cells)
  pub outs_are : r.outs ≡ outs_from 0 (globals_of plant) (value_at old.cells) (value_at new.cells)
  pub moment_is : new.moment ≡ t
  pub reported_at : r.moment ≡ t
  pub in_range : t ≤ LAST_MOMENT

-- a scan made ready from a state after so many events: its event, and what it leaves of that state and reports
pub record IsPreparedScan (plant : PlainPlant) (old : PlainState) (events : ℕ) (pairs : List PlainPair) (t : ℕ) (p : PlainPrepared) : Type 0 where
  pub image : List (ℕ × Value)
  pub event_is : p.event ≡ event.Scan image t
  pub taken : taken_scan (globals_of plant) old.moment events pairs t ≡ Ok p.event
  pub ran : ScanRan plant old image t (after_effect p.effect old) p.report

-- an order made ready from a state: what it does, and its reply
pub record IsPreparedOrder (plant : PlainPlant) (k : PlainState) (console : ℕ) (order : Order) (p : PlainPreparedOrder) : Type 0 where
  pub console_is : p.console ≡ console
  pub order_is : p.order ≡ order
  pub done_is : p.done ≡ unless_old k.reloads order (order_outcome plant k.alarms k.faulted k.moment console order)
  pub reply_is : p.reply ≡ reply_by p.done k.alarms

-- a reload made ready from a state: it leaves what each system that has this state has after it; how many alarms go on, and how many begin anew; and the new plant keeps the rules of plants
pub record IsReadyReload (plant new : PlainPlant) (old : PlainState) (r : ReadyReload) : Type 0 where
  pub state_is : (sys : System) → sys.plant ≡ plant → IsState sys old → IsState (after_reload_event sys new) r.state
  pub kept_is : r.kept ≡ kept_count (kept_numbers plant new)
  pub fresh_is : r.fresh ≡ fresh_count (kept_numbers plant new)
  pub plant_is : IsPlant new
