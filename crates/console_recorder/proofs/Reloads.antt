-- A reload's entry does to a board's alarms what the reload does to the system's, and it fits a board's places.
use Rattle.std.proofs.Common.{◌≡◌, ℕ, ◌<◌, Bool, true, false, ◌&&◌, if◌then◌else◌, nat_le, List, [], ◌∷◌, length, map, All, Option, Some, None, refl, ap, ◌∙◌, arith}
use Rattle.std.specs.Prelude.{slice_get}
use Rattle.std.specs.Option.{option_map_or, option_and_then}
use Rattle.std.proofs.lemmas.List.{length-map}
use Rattle.std.proofs.lemmas.List.Elements.{All-head, All-tail}
use Rattle.std.proofs.lemmas.Option.{slice_get_within}
use Rattle.std.proofs.lemmas.Bool.{le-leb, lt-ltb}
use Rattle.alarm_machine.specs.declared.limits.TheConstants.{LONGEST_SHELVE_MS}
use Rattle.alarm_bank.specs.declared.rows.Site.{Site}
use Rattle.alarm_bank.specs.Reloads.{all_fit, is_there, reload_fits, reloaded_in, sites_of as new_sites}
use Rattle.engine.specs.AlarmRow.{AlarmRow}
use Rattle.engine.specs.Plants.{PlainPlant, IsAlarmRow, IsPlant}
use Rattle.engine.specs.Names.{alarm_number}
use Rattle.engine.specs.Reloads.{if_alike, kept_number, latch_alike, new_of, news_of}
use Rattle.engine.specs.System.{System, after_reload_event, sites_of}
use Rattle.console_recorder.specs.Entries.{panel_of}

both : (a b : Bool) → a ≡ true → b ≡ true → (a && b) ≡ true
both a b h k = ap (λ (c : Bool). c && b) h ∙ k

-- the areas and priorities of the new alarms are those of the new plant's rows
sites_kept : (old : PlainPlant) (rows : List AlarmRow) → new_sites (map (new_of old) rows) ≡ sites_of rows
sites_kept old [] = refl
sites_kept old (row ∷ rows) = ap (λ (l : List Site). record { area = row.area; priority = row.priority } ∷ l) (sites_kept old rows)

pub panel_reloaded : (sys : System) (new : PlainPlant) → reloaded_in (news_of sys.plant new) (panel_of sys) ≡ panel_of (after_reload_event sys new)
panel_reloaded sys new = λ i. record { bank = record { sites = sites_kept sys.plant new.alarms i; alarms = (after_reload_event sys new).alarms; moment = sys.moment }; places = 20000 }

-- an old alarm as which a new one goes on is there
kept_there : (n count : ℕ) (alike : Bool) → n < count → is_there count (if alike then Some n else None) ≡ true
kept_there n count true within = lt-ltb n count within
kept_there n count false within = refl

alike_there : (rows : List AlarmRow) (row : AlarmRow) (n count : ℕ) (o : Option AlarmRow) → count ≡ length rows → slice_get rows n ≡ o
    → is_there count (if option_map_or (λ was. latch_alike was.latching row.latching) o false then Some n else None) ≡ true
alike_there rows row n count None many at = refl
alike_there rows row n count (Some was) many at = let within = slice_get_within rows n was at in kept_there n count (latch_alike was.latching row.latching) (omega (arith, within, many))

number_there : (rows : List AlarmRow) (row : AlarmRow) (count : ℕ) (o : Option ℕ) → count ≡ length rows → is_there count (option_and_then (if_alike rows row) o) ≡ true
number_there rows row count None many = refl
number_there rows row count (Some n) many = alike_there rows row n count (slice_get rows n) many refl

-- so all new alarms fit
rows_fit : (old plant : PlainPlant) (count : ℕ) (rows : List AlarmRow) → count ≡ length old.alarms → All (IsAlarmRow plant) rows → all_fit count (map (new_of old) rows) ≡ true
rows_fit old plant count [] many all = refl
rows_fit old plant count (row ∷ rows) many all =
    let is = All-head (IsAlarmRow plant) row rows all in
    both (nat_le row.max_shelve_ms LONGEST_SHELVE_MS && is_there count (kept_number old row)) (all_fit count (map (new_of old) rows))
    (both (nat_le row.max_shelve_ms LONGEST_SHELVE_MS) (is_there count (kept_number old row)) (le-leb row.max_shelve_ms LONGEST_SHELVE_MS is.shelve) (number_there old.alarms row count (alarm_number old row.tag) many))
    (rows_fit old plant count rows many (All-tail (IsAlarmRow plant) row rows all))

pub reload_allowed : (sys : System) (new : PlainPlant) → length sys.alarms ≡ length sys.plant.alarms → IsPlant new → reload_fits (news_of sys.plant new) (panel_of sys) ≡ true
reload_allowed sys new each is =
    let many = length-map new.alarms (new_of sys.plant) in
    both (nat_le (length (news_of sys.plant new)) 20000) (all_fit (length sys.alarms) (news_of sys.plant new))
    (le-leb (length (news_of sys.plant new)) 20000 (omega (arith, many, is.few))) (rows_fit sys.plant new (length sys.alarms) new.alarms each is.alarms)
