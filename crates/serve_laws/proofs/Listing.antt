-- The rows since a state make the list of alarms.
use Rattle.std.proofs.Common.{◌≡◌, ℕ, zero, suc, ◌<◌, List, [], ◌∷◌, ◌++◌, length, map, refl, ap, ◌∙◌, arith, Option, Some, None}
use Rattle.std.specs.Prelude.{slice_get}
use Rattle.std.specs.Option.{option_map, option_map_or}
use Rattle.alarm_machine.specs.declared.states.Code.TheVariants as code
use Rattle.alarm_machine.specs.Codes.{code_of}
use Rattle.alarm_machine.specs.Alarms.{PlainAlarm}
use Rattle.alarm_bank.specs.declared.rows.Site.{Site}
use Rattle.alarm_bank.specs.Banks.{counted}
use Rattle.engine_history.specs.declared.event.Event.{Event}
use Rattle.engine_history.specs.Reloads.{NoReload}
use Rattle.plant_config.specs.declared.rows.AlarmRow.{AlarmRow}
use Rattle.plant_config.specs.Plants.{PlainPlant, IsPlant}
use Rattle.plant_config.specs.Names.{tag_of}
use Rattle.engine_system.specs.System.{System, system, sites_of, summary_of}
use Rattle.serve_session.specs.Journal.{NamedRow}
use Rattle.serve_session.specs.Listings.{with_end, lines_below, shown_alarm, state_lines_of, state_lines, count_lines, list_text}
use Rattle.serve_laws.specs.Told.{code_at, told_code, rows_since, code_line, told_lines, told_alarm, told_list}
use Rattle.serve_laws.proofs.Tags.{tags_apart}
use Rattle.serve_laws.proofs.Telling.{plant_since, codes_told, as_many}

-- where the alarm of a row stands
abbrev site_of : AlarmRow → Site
site_of row = record { area = row.area; priority = row.priority }

-- the line of an alarm is that of its code
line_told : (plant : PlainPlant) (alarm : ℕ) (o : Option PlainAlarm) → shown_alarm plant alarm (option_map (λ a. a.state) o) ≡ code_line plant alarm (option_map_or (λ (a : PlainAlarm). code_of a.state) o code.Norm)
line_told plant alarm None = refl
line_told plant alarm (Some a) = refl

-- the lines, by the plant before events that are no reloads
lines_by : (plant : PlainPlant) (past later : List Event) → NoReload later → state_lines (system plant (past ++ later))
    ≡ lines_below (λ alarm. shown_alarm (system plant past).plant alarm (option_map (λ a. a.state) (slice_get (system plant (past ++ later)).alarms alarm))) (length (system plant past).plant.alarms)
unfolding state_lines_of
lines_by plant past later stays =
    ap (λ (p : PlainPlant). lines_below (λ alarm. shown_alarm p alarm (option_map (λ a. a.state) (slice_get (system plant (past ++ later)).alarms alarm))) (length p.alarms))
    (plant_since plant past later stays)

-- lines for the same numbers
lines_alike : (f g : ℕ → List (List ℕ)) (n : ℕ) → ((k : ℕ) → k < n → f k ≡ g k) → lines_below f n ≡ lines_below g n
lines_alike f g zero same = refl
lines_alike f g (suc n) same =
    let before = lines_alike f g n (λ k h. same k (omega (arith, h))) in
    let last = same n (omega arith) in
    λ i. before i ++ last i

pub lines_told : (plant : PlainPlant) (past later : List Event) → IsPlant (system plant past).plant → NoReload later
    → state_lines (system plant (past ++ later)) ≡ told_lines (system plant past) (rows_since plant past later)
lines_told plant past later is stays =
    let base = system plant past in
    let now = base.plant in
    let alarms = (system plant (past ++ later)).alarms in
    let rows = rows_since plant past later in
    lines_by plant past later stays
    ∙ lines_alike (λ alarm. shown_alarm now alarm (option_map (λ a. a.state) (slice_get alarms alarm))) (λ alarm. code_line now alarm (told_code base rows (tag_of now alarm))) (length now.alarms)
    (λ alarm there. line_told now alarm (slice_get alarms alarm) ∙ ap (code_line now alarm) (codes_told plant past (tags_apart now is) later stays alarm there))

-- alarms whose codes rows tell are counted as the rows tell
counted_told : (base : System) (rows : List NamedRow) (of_plant : List AlarmRow) (alarms : List PlainAlarm) → length alarms ≡ length of_plant
    → ((k : ℕ) → k < length of_plant → code_at k alarms ≡ told_code base rows (option_map_or (λ row. row.tag) (slice_get of_plant k) [])) → counted (map site_of of_plant) alarms ≡ map (told_alarm base rows) of_plant
counted_told base rows [] alarms same told = refl
counted_told base rows (row ∷ of_plant) [] same told = absurd (omega (arith, same))
counted_told base rows (row ∷ of_plant) (a ∷ alarms) same told =
    let first = told 0 (omega arith) in
    let others = counted_told base rows of_plant alarms (omega (arith, same)) (λ k h. told (suc k) (omega (arith, h))) in
    λ i. record { area = row.area; priority = row.priority; code = first i } ∷ others i

summary_told : (plant : PlainPlant) (past later : List Event) → IsPlant (system plant past).plant → NoReload later
    → summary_of (system plant (past ++ later)) ≡ map (told_alarm (system plant past) (rows_since plant past later)) (system plant past).plant.alarms
summary_told plant past later is stays =
    let base = system plant past in
    let sys = system plant (past ++ later) in
    ap (λ (p : PlainPlant). counted (sites_of p.alarms) sys.alarms) (plant_since plant past later stays)
    ∙ counted_told base (rows_since plant past later) base.plant.alarms sys.alarms (as_many plant past later stays) (codes_told plant past (tags_apart base.plant is) later stays)

pub list_told : (plant : PlainPlant) (past later : List Event) → IsPlant (system plant past).plant → NoReload later → list_text (system plant (past ++ later)) ≡ told_list (system plant past) (rows_since plant past later)
unfolding list_text
list_told plant past later is stays =
    let own = plant_since plant past later stays in
    let lines = lines_told plant past later is stays in
    let summary = summary_told plant past later is stays in
    λ i. with_end (lines i ++ count_lines (own i) (summary i))
