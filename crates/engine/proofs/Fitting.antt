-- When what was made ready fits an engine, and what an engine holds before the first event and after an order.
use Rattle.std.proofs.Common.{◌≡◌, ℕ, ◌+◌, ◌<◌, ◌≤◌, List, [], ◌∷◌, ◌++◌, length, All, ap, sym, ◌∙◌, subst, Ok, arith}
use Rattle.std.proofs.lemmas.List.Elements.{All-nil}
use Rattle.plant_types.specs.Pairs.{PlainPair}
use Rattle.journal_core.specs.declared.row.Row.{Row}
use Rattle.engine_system.specs.Plants.{PlainPlant, IsPlant}
use Rattle.engine_system.specs.Names.{globals_of}
use Rattle.engine_system.specs.Event.{Event}
use Rattle.engine_system.specs.Event.TheVariants as event
use Rattle.alarm_orders.specs.declared.order.Order.{Order}
use Rattle.engine_system.specs.declared.event.TheConstants.{MOST_EVENTS}
use Rattle.engine_system.specs.Orders.{order_outcome, unless_old, alarms_by, faulted_by, reply_by}
use Rattle.engine_system.specs.System.{System, opening_system, after_event, after_scan_event, scan_event, reload_event, ordered, system}
use Rattle.engine_system.specs.States.{PlainState, PlainPrepared, PlainPreparedOrder, IsState, IsReport, after_effect}
use Rattle.engine_system.specs.Steps.{ScanRan, IsPreparedScan, IsPreparedOrder, IsReadyReload}
use Rattle.engine_system.specs.declared.reloading.ReadyReload.{ReadyReload}
use Rattle.engine_system.specs.Reloads.{fresh_count, kept_count, kept_numbers}
use Rattle.engine_system.proofs.Images.{taken_within}
use Rattle.engine_system.proofs.FoundReload.{reload_found}
use Rattle.engine_system.proofs.Systems.{system_events, system_next, system_reloads, system_none, system_scans, kept_alarms, scan_agrees, scan_reports, scan_event_is, effect_anywhere, order_steps, order_event_room}
use Rattle.engine.specs.Lawful.{IsTaken}
use Rattle.engine.specs.Engines.{PlainEngine, Fits, FitsOrder, FitsReload, IsEngine, state_of}
use Rattle.engine.specs.Journal.{IsJournal, journal_of, row_plants}
use Rattle.engine.specs.RowNames.{HaveNames}
use Rattle.engine.proofs.Journals.{journal_empty, plants_none}
use Rattle.engine.proofs.Names.{names_none}
use Rattle.engine.proofs.Lawful.{lawful_none}

-- a scan that was made ready from what an engine holds fits that engine, where there is room for its rows
pub scan_fits : (e : PlainEngine) (now : PlainPlant) (p : PlainPrepared) (old : PlainState) (events : ℕ) (pairs : List PlainPair) (t : ℕ) → IsPlant (state_of e).plant → (state_of e).plant ≡ now → IsState (state_of e) old → IsPreparedScan now old events pairs t p → events ≡ length e.history → length p.report.faults + length p.report.changes ≤ e.row_room → Fits e p
scan_fits e now p old events pairs t plant_is own held scan counted rows_there =
    let sys = state_of e in
    let image = scan.image in
    let is = scan.event_is in
    let new = after_effect p.effect old in
    let made = subst (λ (x : PlainPlant). ScanRan x old image t new p.report) (sym own) scan.ran in
    let taken : scan_event sys pairs t ≡ Ok (event.Scan image t) = sym (scan_event_is e.plant now e.history old events pairs t own held counted) ∙ scan.taken ∙ ap Ok is in
    let within = taken_within (globals_of sys.plant) sys.moment sys.events pairs t t image taken in
    let seen = system_scans e.plant e.history in
    let after = scan_agrees sys old new image t p.report plant_is seen within held made in
    record {
      image = image;
      event_is = is ∙ ap (event.Scan image) (sym made.reported_at);
      row_room = rows_there;
      effect_is = λ k keeps. subst (λ (x : Event). IsState (after_event sys x) (after_effect p.effect k)) (sym is) (effect_anywhere sys (after_scan_event sys image t) old k p.effect held keeps after);
      in_range = after.in_range;
      report_is = subst (λ (x : Event). IsReport sys x p.report) (sym is) (scan_reports sys old new image t p.report plant_is seen within (kept_alarms e.plant e.history old held) held made);
      taken = subst (IsTaken sys) (sym is) (pairs, taken);
    }

-- what an order that was made ready leaves is the next system
pub order_agrees : (e : PlainEngine) (p : PlainPreparedOrder) (old : PlainState) → IsState (state_of e) old → FitsOrder e p
    → IsState (system e.plant (e.history ++ event.Order p.console p.order ∷ [])) (record old { faulted = faulted_by p.done old.faulted; alarms = alarms_by p.done old.alarms })
order_agrees e p old held fits =
    let next = system_next e.plant e.history (event.Order p.console p.order) in
    subst (λ (s : System). IsState s (record old { faulted = faulted_by p.done old.faulted; alarms = alarms_by p.done old.alarms })) (sym next)
    (order_steps (state_of e) old p.console p.order p.done fits.done_is held)

-- an order that was made ready from what an engine holds fits that engine, where there is room for its rows
pub order_fits : (e : PlainEngine) (now : PlainPlant) (k : PlainState) (console : ℕ) (order : Order) (p : PlainPreparedOrder) → (state_of e).plant ≡ now → IsState (state_of e) k → IsPreparedOrder now k console order p → length e.history < MOST_EVENTS → 2 ≤ e.row_room → FitsOrder e p
order_fits e now k console order p own held made few rows_there =
    let sys = state_of e in
    let is : p.done ≡ ordered sys p.console p.order =
    made.done_is
    ∙ (λ i. unless_old (held.reloads_is i) order (order_outcome (sym own i) (held.alarms_are i) (held.faulted_is i) (held.moment_is i) console order))
    ∙ (λ i. ordered sys (sym made.console_is i) (sym made.order_is i)) in
    record {
      row_room = rows_there;
      done_is = is;
      reply_is = made.reply_is ∙ ap (λ a. reply_by p.done a) held.alarms_are ∙ ap (λ d. reply_by d sys.alarms) is;
      taken = order_event_room e.plant e.history p.console p.order few;
    }

-- a reload that was made ready from what an engine holds fits that engine, where there is room for its row and the names of the rows before it are kept
pub reload_fits : (e : PlainEngine) (now new : PlainPlant) (k : PlainState) (r : ReadyReload) → (state_of e).plant ≡ now → IsState (state_of e) k → IsReadyReload now new k r → reload_event (state_of e) new ≡ Ok (event.Reload new) → 1 ≤ e.row_room → e.named ≡ length (journal_of e.plant e.history)
    → FitsReload e (record { plant = new; state = r.state; kept = r.kept; fresh = r.fresh })
reload_fits e now new k r own held made taken rows_there there =
    let sys = state_of e in
    let kept : kept_numbers now new ≡ kept_numbers sys.plant new = ap (λ (p : PlainPlant). kept_numbers p new) (sym own) in
    record {
      state_is = made.state_is sys own held;
      told = record { kept_is = made.kept_is ∙ ap kept_count kept; fresh_is = made.fresh_is ∙ ap fresh_count kept };
      taken = (taken, made.plant_is);
      row_room = rows_there;
      named = there;
    }

-- and there were few reloads before
pub reload_few : (e : PlainEngine) (new : PlainPlant) (k : PlainState) → IsState (state_of e) k → reload_event (state_of e) new ≡ Ok (event.Reload new) → k.reloads < MOST_EVENTS
reload_few e new k held taken =
    let sys = state_of e in
    let found = reload_found sys.plant sys.events new taken in
    let events = system_events e.plant e.history in
    let few = system_reloads e.plant e.history in
    omega (arith, found.room, events, few, held.reloads_is)

-- before the first event
pub opening_engine : (plant : PlainPlant) (k : PlainState) → IsPlant plant → IsState (opening_system plant) k → IsEngine plant [] [] k plant []
opening_engine plant k is held = record {
  state_is = subst (λ (s : System). IsState s k) (sym (system_none plant)) held;
  present = ap (λ (s : System). s.plant) (system_none plant);
  plant_is = is;
  lawful = lawful_none plant;
  journal = journal_empty plant;
  have_names = subst (λ (plants : List PlainPlant). HaveNames plants [] [] plant) (sym (plants_none plant)) (names_none plant);
  until = All-nil (λ (row : Row). row.moment ≤ k.moment);
}

-- an engine whose rows are as they were, and of which more names are kept
pub engine_named : (began plant : PlainPlant) (history : List Event) (rows new : List Row) (k : PlainState) (names more : List (List ℕ)) → IsEngine began history rows k plant names → new ≡ rows
    → ((plants : List PlainPlant) → HaveNames plants new names plant → HaveNames plants new more plant) → IsEngine began history new k plant more
engine_named began plant history rows new k names more is same keeps = record {
  state_is = is.state_is;
  present = is.present;
  plant_is = is.plant_is;
  lawful = is.lawful;
  journal = subst (IsJournal began history) (sym same) is.journal;
  have_names = keeps (row_plants began history) (subst (λ (l : List Row). HaveNames (row_plants began history) l names plant) (sym same) is.have_names);
  until = subst (All (λ (row : Row). row.moment ≤ k.moment)) (sym same) is.until;
}
