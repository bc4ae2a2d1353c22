-- How the system goes on by one event, and what each step keeps.
use Rattle.std.proofs.Common.{◌≡◌, ℕ, ◌+◌, ◌<◌, ◌≤◌, ℤ, Bool, true, false, List, [], ◌∷◌, ◌++◌, length, map, All, fold, ap, refl, sym, ◌∙◌, subst, zero-add, arith, Option, Some, None, Ok, Err, suc, zero, replicate}
use Rattle.std.specs.declared.result.Result.{Result}
use Rattle.std.proofs.lemmas.List.{length-map, length-set}
use Rattle.std.proofs.lemmas.List.Elements.{All-nil, All-cons, All-map, All-weaker}
use Rattle.std.proofs.lemmas.List.Sums.{fold-append}
use Rattle.std.proofs.lemmas.Bool.Decides.{nat_tests}
use Rattle.plant_types.specs.Pairs.{PlainPair}
use Rattle.plant_types.specs.declared.values.Value.{Value}
use Rattle.alarm_machine.specs.declared.states.OrderFault.{OrderFault}
use Rattle.alarm_machine.specs.Codes.{PlainChange, code_of, change_between}
use Rattle.alarm_machine.specs.Alarms.{PlainAlarm}
use Rattle.alarm_bank.specs.declared.rows.Site.{Site}
use Rattle.alarm_bank.specs.Banks.{IsSite, PlainBank}
use Rattle.alarm_bank.specs.Moves.{put_all, changes_from}
use Rattle.alarm_bank.specs.Reloads.{alarm_of}
use Rattle.alarm_bank.proofs.BankLaws.{scan_each_length}
use Rattle.st_tree.specs.Meaning.{Ran, Done, Trapped}
use Rattle.logic_source.specs.declared.logic.Variable.{Variable}
use Rattle.logic_source.specs.Source.{Source}
use Rattle.logic_source.specs.Worlds.{World, opening, run_program}
use Rattle.logic_source.specs.Paths.{paths_of, path_text}
use Rattle.logic_cells.specs.Cells.{PlainCells, value_at}
use Rattle.level_scans.specs.Stands.{StandFor}
use Rattle.level_scans.specs.Sound.{IsSound}
use Rattle.engine_history.specs.AlarmRow.{AlarmRow}
use Rattle.engine_history.specs.Plants.{PlainPlant, IsPlant, IsAlarmRow}
use Rattle.engine_system.specs.declared.event.TheConstants.{MOST_EVENTS}
use Rattle.engine_history.specs.declared.event.Event.{Event}
use Rattle.engine_history.specs.declared.event.Event.TheVariants as event
use Rattle.engine_history.specs.Reloads.{NoReload}
use Rattle.alarm_orders.specs.declared.order.Order.{Order}
use Rattle.engine_system.specs.declared.event.EngineFault.{EngineFault}
use Rattle.engine_system.specs.declared.event.EngineFault.TheVariants as refusal
use Rattle.engine_system.specs.declared.state.Effect.{Effect}
use Rattle.engine_system.specs.declared.state.Effect.TheVariants as effect
use Rattle.engine_history.specs.Names.{globals_of, programs_of, body_paths}
use Rattle.level_scans.specs.Scans.{Scanned, after_run, programs_from}
use Rattle.engine_system.specs.Programs.{opening_faulted, with_inputs, global_in, world_after}
use Rattle.engine_system.specs.Orders.{order_outcome, unless_old, alarms_by, faulted_by}
use Rattle.engine_system.specs.Reloads.{kept_number, kept_numbers, new_of, news_of}
use Rattle.engine_system.specs.System.{System, system, after_event, taken_scan, scan_event, order_event, taken_reload, reload_event, opening_system, opening_alarm, scanned_by, after_scan_event, after_order_event, ordered, conditions, delays_of, no_scans, suppressions, scans_after, alarms_after, sites_of, outputs_from, out_at, outs_from}
use Rattle.alarm_watch.specs.declared.watched.Watch.{Watch}
use Rattle.alarm_watch.specs.Watched.{Follow, alarms_watched, watched_conditions}
use Rattle.std_blocks.specs.Calls.{Call}
use Rattle.alarm_delays.specs.Delays.{PlainDelays, after_conditions, after_met, counts, kept_scans}
use Rattle.alarm_delays.proofs.DelayLaws.{length_scans}
use Rattle.plant_types.specs.Values.{is_true}
use Rattle.engine_system.proofs.Watches.{delays_by, kept_watched, step_watched}
use Rattle.engine_system.specs.Reports.{PlainReport}
use Rattle.engine_system.specs.States.{PlainState, PlainScanEffect, PlainPreparedOrder, after_effect, delays_in, unscanned, IsState, IsReport}
use Rattle.level_scans.specs.Runs.{ProgramsRan}
use Rattle.engine_system.specs.Steps.{ScanRan}
use Rattle.engine_system.proofs.CellWorlds.{inputs_stand, values_stand, alarms_same, scans_same, outputs_stand, outs_stand}
use Rattle.engine_system.proofs.Follows.{follow_order}
use Rattle.engine_system.proofs.Images.{has_number}

pub event_keeps_plant : (s : System) (e : Event) → NoReload (e ∷ []) → (after_event s e).plant ≡ s.plant
event_keeps_plant s (event.Scan image t) stays = refl
event_keeps_plant s (event.Order console order) stays = refl
event_keeps_plant s (event.Reload new) stays = absurd stays

plant_from : (s : System) (history : List Event) → NoReload history → (fold after_event s history).plant ≡ s.plant
plant_from s [] stays = refl
plant_from s (event.Scan image t ∷ history) stays = plant_from (after_event s (event.Scan image t)) history stays
plant_from s (event.Order console order ∷ history) stays = plant_from (after_event s (event.Order console order)) history stays
plant_from s (event.Reload new ∷ history) stays = absurd stays

-- a system keeps the plant that it began with, where no event is a reload
pub system_keeps_its_plant : (plant : PlainPlant) (history : List Event) → NoReload history → (system plant history).plant ≡ plant
unfolding system
system_keeps_its_plant plant history stays = plant_from (opening_system plant) history stays

pub system_next : (plant : PlainPlant) (history : List Event) (e : Event) → system plant (history ++ e ∷ []) ≡ after_event (system plant history) e
unfolding system
system_next plant history e = fold-append after_event (opening_system plant) history (e ∷ [])

pub system_none : (plant : PlainPlant) → system plant [] ≡ opening_system plant
unfolding system
system_none plant = refl

-- what the opening system has and each step keeps, every system has
module _ (P : System → Type 0) (keeps : (s : System) (e : Event) → P s → P (after_event s e)) where
  kept_from : (s : System) (history : List Event) → P s → P (fold after_event s history)
  kept_from s [] p = p
  kept_from s (e ∷ history) p = kept_from (after_event s e) history (keeps s e p)

  pub system_keeps : (plant : PlainPlant) (history : List Event) → P (opening_system plant) → P (system plant history)
  unfolding system
  system_keeps plant history p = kept_from (opening_system plant) history p

pub length-scans_after : (now : ℕ → ℤ) (t : ℕ) (rows : List AlarmRow) (scans : List (List Call)) → length scans ≡ length rows → length (scans_after now t rows scans) ≡ length rows
length-scans_after now t rows scans h =
    let delays = length-map rows (λ (row : AlarmRow). row.on_delay_ms) in
    let many = length-map rows (λ (row : AlarmRow). is_true (now row.condition)) in
    length_scans (conditions now rows) t (delays_of rows) scans (omega (arith, many, delays)) (omega (arith, h, delays)) ∙ delays

length-alarms_after : (now : ℕ → ℤ) (t : ℕ) (rows : List AlarmRow) (scans : List (List Call)) (alarms : List PlainAlarm) → length scans ≡ length rows → length alarms ≡ length rows → length (alarms_after now t rows scans alarms) ≡ length rows
length-alarms_after now t rows scans alarms k h =
    scan_each_length (map counts scans) (suppressions now rows) t alarms (length-map scans counts ∙ k ∙ sym h) (length-map rows _ ∙ sym h) ∙ h

length-alarms_by : (done : Result Effect OrderFault) (alarms : List PlainAlarm) → length (alarms_by done alarms) ≡ length alarms
length-alarms_by (Ok (effect.Changed n alarm)) alarms = length-set alarms n alarm
length-alarms_by (Ok (effect.Restarted n)) alarms = refl
length-alarms_by (Err e) alarms = refl

length-faulted_by : (done : Result Effect OrderFault) (faulted : List Bool) → length (faulted_by done faulted) ≡ length faulted
length-faulted_by (Ok (effect.Changed n alarm)) faulted = refl
length-faulted_by (Ok (effect.Restarted n)) faulted = length-set faulted n false
length-faulted_by (Err e) faulted = refl

length-after_run : (ran : Ran World) (others : World → Scanned) (n : ℕ) → ((w : World) → length ((others w).faulted) ≡ n) → length ((after_run ran others).faulted) ≡ suc n
length-after_run (Done w) others n h = ap suc (h w)
length-after_run (Trapped w spot trap) others n h = ap suc (h w)

length-programs_from : (source : Source) (t n : ℕ) (flags : List Bool) (w : World) → length ((programs_from source t n flags w).faulted) ≡ length flags
length-programs_from source t n [] w = refl
length-programs_from source t n (true ∷ flags) w = ap suc (length-programs_from source t (n + 1) flags w)
length-programs_from source t n (false ∷ flags) w = length-after_run (run_program source n t w) (programs_from source t (n + 1) flags) (length flags) (length-programs_from source t (n + 1) flags)

length-world_after : (plant : PlainPlant) (image : List (ℕ × Value)) (t : ℕ) (flags : List Bool) (w : World) → length ((world_after plant image t flags w).faulted) ≡ length flags
unfolding world_after
length-world_after plant image t flags w = length-programs_from plant.source t 0 flags (with_inputs (globals_of plant) image w)

-- an alarm for each row of the database, and the scans that it saw
abbrev pub HasAlarms : System → Type 0
HasAlarms s = (length s.alarms ≡ length s.plant.alarms) × (length s.scans ≡ length s.plant.alarms)

pub alarms_there : (plant : PlainPlant) (history : List Event) → HasAlarms (system plant history)
alarms_there plant history = system_keeps HasAlarms keeps plant history (length-map plant.alarms opening_alarm, length-map plant.alarms no_scans)
  where
    keeps : (s : System) (e : Event) → HasAlarms s → HasAlarms (after_event s e)
    keeps s (event.Scan image t) h =
        let now = global_in (globals_of s.plant) (scanned_by s image t).world in
        let scans = length-scans_after now t s.plant.alarms s.scans h.1 in
        (length-alarms_after now t s.plant.alarms (scans_after now t s.plant.alarms s.scans) s.alarms scans h.0, scans)
    keeps s (event.Order console order) h = (length-alarms_by (ordered s console order) s.alarms ∙ h.0, h.1)
    keeps s (event.Reload new) h = (length-map (news_of s.plant new) (alarm_of s.alarms) ∙ length-map new.alarms (new_of s.plant), length-map (kept_numbers s.plant new) (kept_scans s.scans) ∙ length-map new.alarms (kept_number s.plant))

pub system_alarms : (plant : PlainPlant) (history : List Event) → length ((system plant history).alarms) ≡ length ((system plant history).plant.alarms)
system_alarms plant history = (alarms_there plant history).0

pub system_scans : (plant : PlainPlant) (history : List Event) → length ((system plant history).scans) ≡ length ((system plant history).plant.alarms)
system_scans plant history = (alarms_there plant history).1

-- a flag for each program
pub system_faulted : (plant : PlainPlant) (history : List Event) → length ((system plant history).faulted) ≡ length (programs_of (system plant history).plant)
system_faulted plant history =
    system_keeps (λ s. length s.faulted ≡ length (programs_of s.plant))
    (λ s. elim [
      | event.Scan image t ↦ λ h. length-world_after s.plant image t s.faulted s.world ∙ h
      | event.Order console order ↦ λ h. length-faulted_by (ordered s console order) s.faulted ∙ h
      | event.Reload new ↦ λ h. length-map (programs_of new) (λ (program : List ℕ). false)
    ])
    plant history (length-map (programs_of plant) (λ (program : List ℕ). false))

events_from : (s : System) (history : List Event) → (fold after_event s history).events ≡ s.events + length history
events_from s [] = omega arith
events_from s (event.Scan image t ∷ history) = let h = events_from (after_event s (event.Scan image t)) history in omega (arith, h)
events_from s (event.Order console order ∷ history) = let h = events_from (after_event s (event.Order console order)) history in omega (arith, h)
events_from s (event.Reload new ∷ history) = let h = events_from (after_event s (event.Reload new)) history in omega (arith, h)

-- as many events as the history has
pub system_events : (plant : PlainPlant) (history : List Event) → (system plant history).events ≡ length history
unfolding system
system_events plant history = events_from (opening_system plant) history ∙ zero-add (length history)

-- no more reloads than events
pub system_reloads : (plant : PlainPlant) (history : List Event) → (system plant history).reloads ≤ length history
system_reloads plant history =
    let few = system_keeps (λ s. s.reloads ≤ s.events) keeps plant history (omega arith) in
    let events = system_events plant history in
    omega (arith, few, events)
  where
    keeps : (s : System) (e : Event) → s.reloads ≤ s.events → (after_event s e).reloads ≤ (after_event s e).events
    keeps s (event.Scan image t) h = omega (arith, h)
    keeps s (event.Order console order) h = omega (arith, h)
    keeps s (event.Reload new) h = omega (arith, h)

-- an engine has an alarm for each row of the database
pub kept_alarms : (plant : PlainPlant) (history : List Event) (k : PlainState) → IsState (system plant history) k → length k.alarms ≡ length ((system plant history).plant.alarms)
kept_alarms plant history k held = ap length held.alarms_are ∙ system_alarms plant history

-- and a flag for each program
pub kept_faulted : (plant : PlainPlant) (history : List Event) (k : PlainState) → IsState (system plant history) k → length k.faulted ≡ length (programs_of (system plant history).plant)
kept_faulted plant history k held = ap length held.faulted_is ∙ system_faulted plant history

-- and its outputs are those of its cells
pub kept_outputs : (sys : System) (k : PlainState) → IsState sys k → k.outputs ≡ outputs_from 0 (globals_of sys.plant) (value_at k.cells)
kept_outputs sys k held =
    let source = sys.plant.source in
    held.outputs_are ∙ sym (outputs_stand source (value_at k.cells) (global_in source.globals sys.world) (values_stand source k.cells sys.world held.world_stands))

-- what the programs leave in cells is what they leave in the system's world
runs_world : (sys : System) (old new : PlainState) (image : List (ℕ × Value)) (t : ℕ) (r : PlainReport) → IsSound sys.plant.source → All (has_number (length sys.plant.source.globals)) image → IsState sys old → ScanRan sys.plant old image t new r
    → ProgramsRan sys.plant.source (scanned_by sys image t) new.cells new.faulted r.faults
unfolding world_after
runs_world sys old new image t r sound within held made =
    let source = sys.plant.source in
    let w = with_inputs source.globals image sys.world in
    subst (λ (flags : List Bool). ProgramsRan source (programs_from source t 0 flags w) new.cells new.faulted r.faults) held.faulted_is
    (made.programs w (inputs_stand source image old.cells sys.world sound within held.world_stands))

-- what a scan leaves is the next system
pub scan_agrees : (sys : System) (old new : PlainState) (image : List (ℕ × Value)) (t : ℕ) (r : PlainReport) → IsPlant sys.plant → length sys.scans ≡ length sys.plant.alarms → All (has_number (length sys.plant.source.globals)) image → IsState sys old → ScanRan sys.plant old image t new r
    → IsState (after_scan_event sys image t) new
scan_agrees sys old new image t r is each within held made =
    let plant = sys.plant in
    let runs = runs_world sys old new image t r is.sound within held made in
    let look = global_in (globals_of plant) (scanned_by sys image t).world in
    let now = values_stand plant.source new.cells (scanned_by sys image t).world runs.world_stands in
    record {
      world_stands = runs.world_stands;
      faulted_is = runs.faulted_is;
      sites_are = made.sites_are ∙ held.sites_are;
      watches_are = made.watches_are ∙ held.watches_are;
      reloads_is = made.reloads_are ∙ held.reloads_is;
      follow = λ _. made.follow;
      alarms_are = made.alarms_are
          ∙ (λ i. alarms_watched (value_at new.cells) t (held.watches_are i) (held.delays_are i) (held.alarms_are i))
          ∙ step_watched (value_at new.cells) t sys.moment plant.alarms sys.scans sys.alarms
          ∙ alarms_same plant (value_at new.cells) look t plant.alarms sys.scans sys.alarms now is.alarms;
      delays_are = made.delays_are
          ∙ (λ i. after_conditions (watched_conditions (value_at new.cells) (held.watches_are i)) t (held.delays_are i))
          ∙ kept_watched (value_at new.cells) t sys.moment plant.alarms sys.scans each
          ∙ ap (λ scans. delays_by plant.alarms scans t) (scans_same plant (value_at new.cells) look t plant.alarms sys.scans now is.alarms);
      outputs_are = made.outputs_are ∙ outputs_stand plant.source (value_at new.cells) look now;
      moment_is = made.moment_is;
      in_range = rw made.moment_is made.in_range;
    }

-- the numbers that are reported are there
pub numbers_more : {A : Type 0} (xs : List (ℕ × A)) (n m : ℕ) → n ≤ m → All (λ x. x.0 < n) xs → All (λ x. x.0 < m) xs
numbers_more {A} xs n m h all = All-weaker (λ (x : ℕ × A). x.0 < n) (λ (x : ℕ × A). x.0 < m) (λ x below. omega arith) xs all

pub changes_within : (n : ℕ) (old new : List PlainAlarm) → All (λ c. c.0 < n + length old) (changes_from n old new)
changes_within n [] new = All-nil (λ (x : ℕ × PlainChange). x.0 < n + 0)
changes_within n (a ∷ old) [] = All-nil (λ (x : ℕ × PlainChange). x.0 < n + suc (length old))
changes_within n (a ∷ old) (b ∷ new) =
    let rest = numbers_more (changes_from (n + 1) old new) (n + 1 + length old) (n + suc (length old)) (omega arith) (changes_within (n + 1) old new) in
    one_more (change_between (code_of a.state) (code_of b.state)) rest
  where
    one_more : (o : Option PlainChange) → All (λ c. c.0 < n + suc (length old)) (changes_from (n + 1) old new) → All (λ c. c.0 < n + suc (length old)) (elim o [ None ↦ changes_from (n + 1) old new | Some change ↦ (n, change) ∷ changes_from (n + 1) old new ])
    one_more None rest = rest
    one_more (Some change) rest = All-cons (λ (x : ℕ × PlainChange). x.0 < n + suc (length old)) (n, change) (changes_from (n + 1) old new) (omega arith) rest

outs_within : (n : ℕ) (globals : List Variable) (before now : ℕ → ℤ) → All (λ o. o.0 < n + length globals) (outs_from n globals before now)
outs_within n [] before now = All-nil (λ (x : ℕ × Value). x.0 < n + 0)
outs_within n (global ∷ globals) before now =
    let rest = numbers_more (outs_from (n + 1) globals before now) (n + 1 + length globals) (n + suc (length globals)) (omega arith) (outs_within (n + 1) globals before now) in
    one_more (out_at n global before now) rest
  where
    one_more : (o : Option Value) → All (λ o. o.0 < n + suc (length globals)) (outs_from (n + 1) globals before now) → All (λ o. o.0 < n + suc (length globals)) (elim o [ None ↦ outs_from (n + 1) globals before now | Some v ↦ (n, v) ∷ outs_from (n + 1) globals before now ])
    one_more None rest = rest
    one_more (Some v) rest = All-cons (λ (x : ℕ × Value). x.0 < n + suc (length globals)) (n, v) (outs_from (n + 1) globals before now) (omega arith) rest

-- a path for each body
as_many_paths : (plant : PlainPlant) → length (paths_of plant.source) ≡ length (body_paths plant)
as_many_paths plant = sym (length-map (paths_of plant.source) path_text)

-- what a scan reports is what its event did
pub scan_reports : (sys : System) (old new : PlainState) (image : List (ℕ × Value)) (t : ℕ) (r : PlainReport) → IsPlant sys.plant → length sys.scans ≡ length sys.plant.alarms → All (has_number (length sys.plant.source.globals)) image → length old.alarms ≡ length sys.plant.alarms → IsState sys old → ScanRan sys.plant old image t new r
    → IsReport sys (event.Scan image t) r
scan_reports sys old new image t r is seen within each held made =
    let plant = sys.plant in
    let runs = runs_world sys old new image t r is.sound within held made in
    let after = scan_agrees sys old new image t r is seen within held made in
    let look = global_in (globals_of plant) (scanned_by sys image t).world in
    let before = values_stand plant.source old.cells sys.world held.world_stands in
    let now = values_stand plant.source new.cells (scanned_by sys image t).world runs.world_stands in
    record {
      moment_is = made.reported_at;
      faults_are = runs.faults_are;
      faults_within = subst (λ n. All (λ f. f.0.path < n) r.faults) (as_many_paths plant) made.faults_within;
      changes_are = made.changes_are ∙ ap (λ a. changes_from 0 a new.alarms) held.alarms_are ∙ ap (changes_from 0 sys.alarms) after.alarms_are;
      changes_within = subst (λ (l : List (ℕ × PlainChange)). All (λ c. c.0 < length plant.alarms) l) (sym made.changes_are) (numbers_more (changes_from 0 old.alarms new.alarms) (0 + length old.alarms) (length plant.alarms) (omega arith) (changes_within 0 old.alarms new.alarms));
      outs_within = subst (λ (l : List (ℕ × Value)). All (λ o. o.0 < length plant.source.globals) l) (sym made.outs_are) (numbers_more (outs_from 0 plant.source.globals (value_at old.cells) (value_at new.cells)) (0 + length plant.source.globals) (length plant.source.globals) (omega arith) (outs_within 0 plant.source.globals (value_at old.cells) (value_at new.cells)));
      outs_are = made.outs_are ∙ outs_stand plant.source (value_at old.cells) (global_in (globals_of plant) sys.world) (value_at new.cells) look before now;
    }

-- the event of a scan, by what an engine keeps and how many events there were
pub scan_event_is : (plant now : PlainPlant) (history : List Event) (k : PlainState) (n : ℕ) (pairs : List PlainPair) (t : ℕ) → (system plant history).plant ≡ now → IsState (system plant history) k → n ≡ length history
    → taken_scan (globals_of now) k.moment n pairs t ≡ scan_event (system plant history) pairs t
scan_event_is plant now history k n pairs t own held is =
    let events = is ∙ sym (system_events plant history) in
    λ i. taken_scan (globals_of (sym own i)) (held.moment_is i) (events i) pairs t

-- the event of a reload, by what an engine keeps
pub reload_event_is : (plant now : PlainPlant) (history : List Event) (n : ℕ) (new : PlainPlant) → (system plant history).plant ≡ now → n ≡ length history → taken_reload now n new ≡ reload_event (system plant history) new
reload_event_is plant now history n new own is =
    let events = is ∙ sym (system_events plant history) in
    λ i. taken_reload (sym own i) (events i) new

-- what an effect makes of one state that is kept for a system, it makes of each
pub effect_anywhere : (sys next : System) (old k : PlainState) (effect : PlainScanEffect) → IsState sys old → IsState sys k → IsState next (after_effect effect old) → IsState next (after_effect effect k)
effect_anywhere sys next old k effect held keeps after = record {
  world_stands = after.world_stands;
  faulted_is = after.faulted_is;
  sites_are = keeps.sites_are ∙ sym held.sites_are ∙ after.sites_are;
  watches_are = keeps.watches_are ∙ sym held.watches_are ∙ after.watches_are;
  reloads_is = keeps.reloads_is ∙ sym held.reloads_is ∙ after.reloads_is;
  follow = λ _.
      subst (λ (watches : List Watch). Follow (value_at effect.cells) watches (after_met effect.met effect.moment effect.moved k.delays) (put_all k.alarms effect.moved)) (held.watches_are ∙ sym keeps.watches_are)
      (subst (λ (d : PlainDelays). Follow (value_at effect.cells) old.watches (after_met effect.met effect.moment effect.moved d) (put_all k.alarms effect.moved)) (held.delays_are ∙ sym keeps.delays_are)
      (subst (λ (alarms : List PlainAlarm). Follow (value_at effect.cells) old.watches (after_met effect.met effect.moment effect.moved old.delays) (put_all alarms effect.moved)) (held.alarms_are ∙ sym keeps.alarms_are) (after.follow refl)));
  alarms_are = ap (λ l. put_all l effect.moved) (keeps.alarms_are ∙ sym held.alarms_are) ∙ after.alarms_are;
  delays_are = ap (λ d. after_met effect.met effect.moment effect.moved d) (keeps.delays_are ∙ sym held.delays_are) ∙ after.delays_are;
  outputs_are = after.outputs_are;
  moment_is = after.moment_is;
  in_range = after.in_range;
}

-- what an order leaves is the next system
pub order_steps : (sys : System) (old : PlainState) (console : ℕ) (order : Order) (done : Result Effect OrderFault) → done ≡ ordered sys console order → IsState sys old
    → IsState (after_order_event sys console order) (record old { faulted = faulted_by done old.faulted; alarms = alarms_by done old.alarms })
order_steps sys old console order done is held = record {
  world_stands = held.world_stands;
  faulted_is = ap (λ d. faulted_by d old.faulted) is ∙ ap (faulted_by (ordered sys console order)) held.faulted_is;
  sites_are = held.sites_are;
  watches_are = held.watches_are;
  reloads_is = held.reloads_is;
  follow = λ followed. follow_order (value_at old.cells) old.watches old.delays sys.plant old.alarms sys.faulted sys.moment sys.reloads console order done (is ∙ ap (λ l. unless_old sys.reloads order (order_outcome sys.plant l sys.faulted sys.moment console order)) (sym held.alarms_are)) (held.follow followed);
  alarms_are = ap (λ d. alarms_by d old.alarms) is ∙ ap (alarms_by (ordered sys console order)) held.alarms_are;
  delays_are = held.delays_are;
  outputs_are = held.outputs_are;
  moment_is = held.moment_is;
  in_range = held.in_range;
}

-- no program is faulted at first
pub opening_flags : (programs : List (List ℕ)) (n : ℕ) (flags : List Bool) → n ≡ length programs → flags ≡ replicate n false → flags ≡ opening_faulted programs
opening_flags programs n flags many are = are ∙ unset n programs many
  where
    unset : (n : ℕ) (xs : List (List ℕ)) → n ≡ length xs → replicate n false ≡ map (λ (program : List ℕ). false) xs
    unset n [] same = rw same refl
    unset zero (x ∷ xs) same = absurd (omega (arith, same))
    unset (suc n) (x ∷ xs) same = ap (λ l. false ∷ l) (unset n xs (omega (arith, same)))

-- the area of each alarm is there, and its priority is one of four
pub sites_there : (plant : PlainPlant) → IsPlant plant → All (IsSite (length plant.areas)) (sites_of plant.alarms)
sites_there plant is =
    let site : AlarmRow → Site = λ row. record { area = row.area; priority = row.priority } in
    All-map (IsSite (length plant.areas)) site plant.alarms
    (All-weaker (IsAlarmRow plant) (λ row. IsSite (length plant.areas) (site row)) (λ row there. record { area = there.area; lowest = there.lowest; highest = there.highest }) plant.alarms is.alarms)

-- before the first event
pub opening_agrees : (plant : PlainPlant) (cells : PlainCells) (bank : PlainBank) (delays : PlainDelays) → StandFor plant.source cells (opening plant.source)
    → bank ≡ record { sites = sites_of plant.alarms; alarms = map opening_alarm plant.alarms; moment = 0 } → delays ≡ delays_in (opening_system plant) → IsState (opening_system plant) (unscanned plant cells bank delays 0)
opening_agrees plant cells bank delays stands bank_is delays_are =
    let moment : bank.moment ≡ 0 = ap (λ (b : PlainBank). b.moment) bank_is in
    record {
      world_stands = stands;
      faulted_is = refl;
      sites_are = ap (λ (b : PlainBank). b.sites) bank_is;
      watches_are = refl;
      reloads_is = refl;
      follow = λ is. absurd (let never : false ≡ true = is in cc);
      alarms_are = ap (λ (b : PlainBank). b.alarms) bank_is;
      delays_are = delays_are;
      outputs_are = outputs_stand plant.source (value_at cells) (global_in (globals_of plant) (opening plant.source)) (values_stand plant.source cells (opening plant.source) stands);
      moment_is = moment;
      in_range = rw moment (omega arith);
    }

-- an order where the history has room
pub order_event_room : (plant : PlainPlant) (history : List Event) (console : ℕ) (order : Order) → length history < MOST_EVENTS → order_event (system plant history) console order ≡ Ok (event.Order console order)
unfolding order_event
order_event_room plant history console order few =
    let events = system_events plant history in
    grind (arith, nat_tests)

-- the event of an order that was made ready
pub order_event_ready : (plant : PlainPlant) (history : List Event) (console : ℕ) (order : Order) (p : PlainPreparedOrder) → length history < MOST_EVENTS → p.console ≡ console → p.order ≡ order → order_event (system plant history) console order ≡ Ok (event.Order p.console p.order)
order_event_ready plant history console order p few console_is order_is =
    let made : ℕ → Order → Result Event EngineFault = λ n o. Ok (event.Order n o) in
    order_event_room plant history console order few ∙ ap (λ n. made n order) (sym console_is) ∙ ap (made p.console) (sym order_is)

-- and where it is full
pub order_event_full : (plant : PlainPlant) (history : List Event) (console : ℕ) (order : Order) → MOST_EVENTS ≤ length history → order_event (system plant history) console order ≡ Err refusal.HistoryFull
unfolding order_event
order_event_full plant history console order full =
    let events = system_events plant history in
    grind (arith, nat_tests)
