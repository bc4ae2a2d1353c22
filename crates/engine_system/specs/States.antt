-- What is kept of a system, what a scan and an order that were made ready do to it, and what a scan reports.
use Rattle.std.specs.Prelude.{◌≡◌, ℕ, ◌<◌, ◌≤◌, Bool, true, false, List, length, map, All, Result}
use Rattle.plant_types.specs.declared.values.Value.{Value}
use Rattle.logic_cells.specs.Cells.{PlainCells, value_at}
use Rattle.level_scans.specs.Stands.{StandFor}
use Rattle.level_scans.specs.VmLogicRuns.{place_spot}
use Rattle.alarm_machine.specs.Alarms.{PlainAlarm}
use Rattle.alarm_machine.specs.declared.states.OrderFault.{OrderFault}
use Rattle.alarm_machine.specs.declared.limits.TheConstants.{LAST_MOMENT}
use Rattle.alarm_bank.specs.declared.rows.Site.{Site}
use Rattle.alarm_bank.specs.Banks.{PlainBank}
use Rattle.alarm_bank.specs.Moves.{put_all}
use Rattle.alarm_delays.specs.Delays.{PlainDelays, after_met, since_of}
use Rattle.alarm_watch.specs.declared.watched.Watch.{Watch}
use Rattle.alarm_watch.specs.Watched.{Follow}
use Rattle.engine_history.specs.Plants.{PlainPlant}
use Rattle.engine_history.specs.Names.{globals_of, programs_of, body_paths}
use Rattle.engine_history.specs.declared.event.Event.{Event}
use Rattle.alarm_orders.specs.declared.order.Order.{Order}
use Rattle.engine_system.specs.declared.event.Reply.{Reply}
use Rattle.engine_system.specs.declared.state.Effect.{Effect}
use Rattle.engine_system.specs.Reports.{PlainReport}
use Rattle.engine_system.specs.Programs.{opening_faulted}
use Rattle.engine_system.specs.System.{System, after_event, faults_of, changes_of, delays_of, outs_of, outputs_from, outputs_of, sites_of}
use Rattle.engine_system.specs.Watches.{watches_of}

-- what is kept of a system beside its plant: the cells of the variables and clocks, the faulted programs, the area and priority of each alarm and what it watches, whether there was a scan, so that the alarms follow the cells, the alarms, their delays, the outputs, the last moment, and how many reloads there were
pub record PlainState : Type 0 where
  pub cells : PlainCells
  pub faulted : List Bool
  pub sites : List Site
  pub watches : List Watch
  pub follows : Bool
  pub alarms : List PlainAlarm
  pub delays : PlainDelays
  pub outputs : List (ℕ × Value)
  pub moment : ℕ
  pub reloads : ℕ

-- the bank of what is kept: the alarms with their areas and priorities, and the last moment
abbrev pub bank_in : PlainState → PlainBank
bank_in k = record { sites = k.sites; alarms = k.alarms; moment = k.moment }

-- what is kept of a plant with these cells, alarms and delays after so many reloads, before the next scan: no program is faulted, and the alarms don't follow the cells
abbrev pub unscanned : PlainPlant → PlainCells → PlainBank → PlainDelays → ℕ → PlainState
unscanned plant cells bank delays reloads = record {
  cells = cells;
  faulted = opening_faulted (programs_of plant);
  sites = bank.sites;
  watches = watches_of plant.alarms;
  follows = false;
  alarms = bank.alarms;
  delays = delays;
  outputs = outputs_from 0 (globals_of plant) (value_at cells);
  moment = bank.moment;
  reloads = reloads;
}

-- of all scans that a system's alarms saw, what tells which conditions count
abbrev pub delays_in : System → PlainDelays
delays_in sys = record { delays = delays_of sys.plant.alarms; since = map since_of sys.scans; last = sys.moment }

-- what is kept is what the system has
pub record IsState (sys : System) (k : PlainState) : Type 0 where
  pub world_stands : StandFor sys.plant.source k.cells sys.world
  pub faulted_is : k.faulted ≡ sys.faulted
  pub sites_are : k.sites ≡ sites_of sys.plant.alarms
  pub watches_are : k.watches ≡ watches_of sys.plant.alarms
  pub follow : k.follows ≡ true → Follow (value_at k.cells) k.watches k.delays k.alarms
  pub alarms_are : k.alarms ≡ sys.alarms
  pub delays_are : k.delays ≡ delays_in sys
  pub outputs_are : k.outputs ≡ outputs_of sys
  pub moment_is : k.moment ≡ sys.moment
  pub reloads_is : k.reloads ≡ sys.reloads
  pub in_range : k.moment ≤ LAST_MOMENT

-- a report is what an event did: its moment, the faults in program order, the changes in the order of the database, and the outputs that it changed in order of declaration; the plant has each path, each alarm and each global that it names by number
pub record IsReport (sys : System) (e : Event) (r : PlainReport) : Type 0 where
  pub moment_is : r.moment ≡ (after_event sys e).moment
  pub faults_are : map (λ f. (place_spot sys.plant.source f.0, f.1)) r.faults ≡ faults_of sys e
  pub faults_within : All (λ f. f.0.path < length (body_paths sys.plant)) r.faults
  pub changes_are : r.changes ≡ changes_of sys e
  pub changes_within : All (λ c. c.0 < length sys.plant.alarms) r.changes
  pub outs_are : r.outs ≡ outs_of sys e
  pub outs_within : All (λ o. o.0 < length (globals_of sys.plant)) r.outs

-- what a scan does to a state: the cells, the faulted programs and the outputs that it leaves, the alarms whose conditions may have changed, those that it moves, and its moment
pub record PlainScanEffect : Type 0 where
  pub cells : PlainCells
  pub faulted : List Bool
  pub outputs : List (ℕ × Value)
  pub met : List (ℕ × Bool)
  pub moved : List (ℕ × PlainAlarm)
  pub moment : ℕ

-- a state after that: the alarms that moved are put in their places, the others rest
abbrev pub after_effect : PlainScanEffect → PlainState → PlainState
after_effect effect k =
    record k {
      cells = effect.cells;
      faulted = effect.faulted;
      follows = true;
      alarms = put_all k.alarms effect.moved;
      delays = after_met effect.met effect.moment effect.moved k.delays;
      outputs = effect.outputs;
      moment = effect.moment;
    }

-- a scan that was made ready: its event, what it does and what it reports
pub record PlainPrepared : Type 0 where
  pub event : Event
  pub effect : PlainScanEffect
  pub report : PlainReport

-- an order that was made ready: what it does, and its reply
pub record PlainPreparedOrder : Type 0 where
  pub console : ℕ
  pub order : Order
  pub done : Result Effect OrderFault
  pub reply : Reply
