-- What a reload leaves of what is kept is what the system has after it.
use Rattle.std.proofs.Common.{◌≡◌, ℕ, ◌+◌, ◌<◌, ◌≤◌, Bool, true, false, ◌&&◌, if◌then◌else◌, List, [], ◌∷◌, length, map, All, ap, refl, sym, ◌∙◌, subst, arith, Option, Some, None}
use Rattle.std.specs.Prelude.{nat_le, slice_get}
use Rattle.std.specs.Option.{option_map_or, option_and_then}
use Rattle.std.proofs.lemmas.Option.{slice_get_within}
use Rattle.std.proofs.lemmas.List.{length-map}
use Rattle.std.proofs.lemmas.List.Elements.{All-head, All-tail}
use Rattle.std.proofs.lemmas.Bool.Decides.{nat_tests}
use Rattle.alarm_machine.specs.declared.limits.TheConstants.{LONGEST_SHELVE_MS}
use Rattle.alarm_bank.specs.declared.rows.Site.{Site}
use Rattle.alarm_bank.specs.Banks.{PlainBank}
use Rattle.alarm_bank.specs.Reloads.{alarm_of, all_fit, bank_reloaded, is_there, sites_of as sites_of_news}
use Rattle.alarm_delays.specs.Delays.{PlainDelays, delays_reloaded}
use Rattle.alarm_delays.proofs.Keeping.{kept_agree}
use Rattle.logic_source.specs.Worlds.{World}
use Rattle.logic_source.specs.Carried.{carried}
use Rattle.logic_cells.specs.Cells.{PlainCells, value_at}
use Rattle.level_scans.specs.Stands.{StandFor}
use Rattle.level_scans.specs.Sound.{IsSound}
use Rattle.engine_history.specs.AlarmRow.{AlarmRow}
use Rattle.engine_history.specs.Plants.{PlainPlant, IsPlant, IsAlarmRow}
use Rattle.engine_history.specs.Names.{alarm_number, globals_of}
use Rattle.engine_system.specs.Programs.{global_in}
use Rattle.engine_system.specs.Reloads.{if_alike, kept_number, kept_numbers, kept_of, latch_alike, new_of, news_of}
use Rattle.engine_system.specs.System.{System, after_reload_event, delays_of, sites_of}
use Rattle.engine_system.specs.States.{PlainState, IsState, bank_in, delays_in, unscanned}
use Rattle.engine_system.specs.Steps.{StandInRange}
use Rattle.engine_system.proofs.CellWorlds.{outputs_stand, values_stand}
use Rattle.engine_system.proofs.InRange.{reload_in}

-- an old alarm as which a new one goes on is there
if_there : (n count : ℕ) (b : Bool) → n < count → is_there count (if b then Some n else None) ≡ true
if_there n count true h = grind (arith, nat_tests)
if_there n count false h = refl

alike_there : (rows : List AlarmRow) (row : AlarmRow) (n : ℕ) (found : Option AlarmRow) → slice_get rows n ≡ found
    → is_there (length rows) (if option_map_or (λ (was : AlarmRow). latch_alike was.latching row.latching) found false then Some n else None) ≡ true
alike_there rows row n None at = refl
alike_there rows row n (Some was) at = if_there n (length rows) (latch_alike was.latching row.latching) (slice_get_within rows n was at)

found_there : (rows : List AlarmRow) (row : AlarmRow) (o : Option ℕ) → is_there (length rows) (option_and_then (if_alike rows row) o) ≡ true
found_there rows row None = refl
found_there rows row (Some n) = alike_there rows row n (slice_get rows n) refl

both : (a b : Bool) → a ≡ true → b ≡ true → (a && b) ≡ true
both true b h k = k
both false b h k = h

-- so the alarms of a new plant fit
rows_fit : (old new : PlainPlant) (rows : List AlarmRow) → All (IsAlarmRow new) rows → all_fit (length old.alarms) (map (new_of old) rows) ≡ true
rows_fit old new [] all = refl
rows_fit old new (row ∷ rows) all =
    let is = All-head (IsAlarmRow new) row rows all in
    let shelve : row.max_shelve_ms ≤ LONGEST_SHELVE_MS = is.shelve in
    let short : nat_le row.max_shelve_ms LONGEST_SHELVE_MS ≡ true = grind (arith, nat_tests) in
    both _ _ (both _ _ short (found_there old.alarms row (alarm_number old row.tag))) (rows_fit old new rows (All-tail (IsAlarmRow new) row rows all))

pub news_fit : (old new : PlainPlant) → IsPlant new → all_fit (length old.alarms) (news_of old new) ≡ true
news_fit old new is = rows_fit old new new.alarms is.alarms

-- their areas and priorities are those of the rows
rows_sites : (old : PlainPlant) (rows : List AlarmRow) → sites_of_news (map (new_of old) rows) ≡ sites_of rows
rows_sites old [] = refl
rows_sites old (row ∷ rows) = let site : Site = record { area = row.area; priority = row.priority } in ap (λ (l : List Site). site ∷ l) (rows_sites old rows)

pub news_sites : (old new : PlainPlant) → sites_of_news (news_of old new) ≡ sites_of new.alarms
news_sites old new = rows_sites old new.alarms

-- and their numbers are those of the old alarms
rows_kept : (old : PlainPlant) (rows : List AlarmRow) → kept_of (map (new_of old) rows) ≡ map (kept_number old) rows
rows_kept old [] = refl
rows_kept old (row ∷ rows) = ap (λ (l : List (Option ℕ)). kept_number old row ∷ l) (rows_kept old rows)

pub news_kept : (old new : PlainPlant) → kept_of (news_of old new) ≡ kept_numbers old new
news_kept old new = rows_kept old new.alarms

-- the delays after a reload
delays_same : (sys : System) (new : PlainPlant) → delays_reloaded (delays_of new.alarms) (kept_numbers sys.plant new) (delays_in sys) ≡ delays_in (after_reload_event sys new)
delays_same sys new = λ i. record { delays = delays_of new.alarms; since = sym (kept_agree sys.scans (kept_numbers sys.plant new)) i; last = sys.moment }

-- the cells that go over stand for a world in range
pub cells_carried : (old new : PlainPlant) (before after : PlainCells) → IsSound new.source → StandInRange old.source before
    → ((w : World) → StandFor old.source before w → StandFor new.source after (carried old.source new.source w)) → StandInRange new.source after
cells_carried old new before after sound held over = record {
  world = carried old.source new.source held.world;
  stands = over held.world held.stands;
  in_range = reload_in old new held.world sound held.in_range;
}

-- what is made of the cells, the alarms and the delays that go over is what the system has after the reload
pub reload_agrees : (sys : System) (old : PlainState) (new : PlainPlant) (cells : PlainCells) (bank : PlainBank) (delays : PlainDelays) (reloads : ℕ) → IsState sys old
    → StandFor new.source cells (carried sys.plant.source new.source sys.world) → bank ≡ bank_reloaded (news_of sys.plant new) (bank_in old) → delays ≡ delays_reloaded (delays_of new.alarms) (kept_numbers sys.plant new) old.delays → reloads ≡ old.reloads + 1
    → IsState (after_reload_event sys new) (unscanned new cells bank delays reloads)
reload_agrees sys old new cells bank delays reloads held stands bank_is delays_are reloads_are =
    let world = carried sys.plant.source new.source sys.world in
    let moment : bank.moment ≡ sys.moment = ap (λ (b : PlainBank). b.moment) bank_is ∙ held.moment_is in
    record {
      world_stands = stands;
      faulted_is = refl;
      sites_are = ap (λ (b : PlainBank). b.sites) bank_is ∙ news_sites sys.plant new;
      watches_are = refl;
      follow = λ is. absurd (let never : false ≡ true = is in cc);
      alarms_are = ap (λ (b : PlainBank). b.alarms) bank_is ∙ ap (λ alarms. map (alarm_of alarms) (news_of sys.plant new)) held.alarms_are;
      delays_are = delays_are ∙ ap (delays_reloaded (delays_of new.alarms) (kept_numbers sys.plant new)) held.delays_are ∙ delays_same sys new;
      outputs_are = outputs_stand new.source (value_at cells) (global_in (globals_of new) world) (values_stand new.source cells world stands);
      moment_is = moment;
      reloads_is = reloads_are ∙ ap (λ n. n + 1) held.reloads_is;
      in_range = rw (moment, ← held.moment_is) held.in_range;
    }

-- so it is, of each system of the plant that has this state
pub reload_ready : (plant new : PlainPlant) (old made : PlainState) (cells : PlainCells) (bank : PlainBank) (delays : PlainDelays) (reloads : ℕ)
    → ((w : World) → StandFor plant.source old.cells w → StandFor new.source cells (carried plant.source new.source w)) → bank ≡ bank_reloaded (news_of plant new) (bank_in old)
    → delays ≡ delays_reloaded (delays_of new.alarms) (kept_numbers plant new) old.delays → reloads ≡ old.reloads + 1 → made ≡ unscanned new cells bank delays reloads
    → (sys : System) → sys.plant ≡ plant → IsState sys old → IsState (after_reload_event sys new) made
reload_ready plant new old made cells bank delays reloads over bank_is delays_are reloads_are made_is sys own held =
    let over_own : (w : World) → StandFor sys.plant.source old.cells w → StandFor new.source cells (carried sys.plant.source new.source w) =
    subst (λ (p : PlainPlant). (w : World) → StandFor p.source old.cells w → StandFor new.source cells (carried p.source new.source w)) (sym own) over in
    let bank_own : bank ≡ bank_reloaded (news_of sys.plant new) (bank_in old) = bank_is ∙ ap (λ (p : PlainPlant). bank_reloaded (news_of p new) (bank_in old)) (sym own) in
    let delays_own : delays ≡ delays_reloaded (delays_of new.alarms) (kept_numbers sys.plant new) old.delays = delays_are ∙ ap (λ (p : PlainPlant). delays_reloaded (delays_of new.alarms) (kept_numbers p new) old.delays) (sym own) in
    subst (IsState (after_reload_event sys new)) (sym made_is)
    (reload_agrees sys old new cells bank delays reloads held (over_own sys.world held.world_stands) bank_own delays_own reloads_are)

-- a plant has few alarms
pub kept_few : (plant new : PlainPlant) → IsPlant new → length (kept_numbers plant new) ≤ 20000
kept_few plant new is = let many = length-map new.alarms (kept_number plant) in omega (arith, many, is.few)
