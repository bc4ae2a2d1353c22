-- Which alarms go on when another plant takes the place of the present one.
use Rattle.std.specs.Prelude.{ℕ, ◌==◌, Bool, true, false, ◌&&◌, not, if◌then◌else◌, List, [], ◌∷◌, map, Option, Some, None, slice_get}
use Rattle.std.specs.List.{count_by}
use Rattle.std.specs.Option.{is_none, is_some, option_map_or, option_and_then}
use Rattle.alarm_bank.specs.declared.rows.NewAlarm.{NewAlarm}
use Rattle.plant_file.specs.declared.console.ListedConsole.{ListedConsole}
use Rattle.engine_history.specs.AlarmRow.{AlarmRow}
use Rattle.engine_history.specs.Plants.{PlainPlant}
use Rattle.engine_history.specs.Names.{alarm_number}

-- two alarms latch alike: both do, or neither does
abbrev pub latch_alike : Bool → Bool → Bool
latch_alike true b = b
latch_alike false b = not b

-- the number of an old alarm, if it latches as a new one does
abbrev pub if_alike : List AlarmRow → AlarmRow → ℕ → Option ℕ
if_alike old row n = if option_map_or (λ was. latch_alike was.latching row.latching) (slice_get old n) false then Some n else None

-- the number of the old alarm as which a new one goes on: that of its tag, if the two latch alike
abbrev pub kept_number : PlainPlant → AlarmRow → Option ℕ
kept_number old row = option_and_then (if_alike old.alarms row) (alarm_number old row.tag)

-- for each alarm of a new plant the old alarm as which it goes on, if there is one
abbrev pub kept_numbers : PlainPlant → PlainPlant → List (Option ℕ)
kept_numbers old new = map (kept_number old) new.alarms

-- an alarm of a new plant, with the number of the old one as which it goes on, if there is one
abbrev pub new_of : PlainPlant → AlarmRow → NewAlarm
new_of old row = record { site = record { area = row.area; priority = row.priority }; latching = row.latching; max_shelve_ms = row.max_shelve_ms; kept = kept_number old row }

-- the alarms of a new plant, each with that number
abbrev pub news_of : PlainPlant → PlainPlant → List NewAlarm
news_of old new = map (new_of old) new.alarms

-- the numbers that these have
abbrev pub kept_of : List NewAlarm → List (Option ℕ)
kept_of news = map (λ (new : NewAlarm). new.kept) news

-- how many go on
abbrev pub kept_count : List (Option ℕ) → ℕ
kept_count kept = count_by is_some kept

-- how many begin anew
abbrev pub fresh_count : List (Option ℕ) → ℕ
fresh_count kept = count_by is_none kept

-- the numbers of consoles, in their order
abbrev pub numbers_of : List ListedConsole → List ℕ
numbers_of consoles = map (λ (console : ListedConsole). console.number) consoles

-- two lists have the same numbers in the same order
abbrev pub same_numbers : List ℕ → List ℕ → Bool
same_numbers [] [] = true
same_numbers (m ∷ ms) (n ∷ ns) = (m == n) && same_numbers ms ns
same_numbers _ _ = false
