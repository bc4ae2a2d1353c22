-- Worked examples: which alarms go on after a reload, with what, and why a reload is refused.
use Rattle.std.proofs.Common.{◌≡◌, ℕ, Bool, true, false, List, [], ◌∷◌, None, Some, Ok, Err, refl}
use Rattle.std.specs.Prelude.{codes}
use Rattle.alarm_machine.specs.Alarms.{PlainAlarm}
use Rattle.alarm_machine.specs.declared.states.AlarmState.TheVariants as state
use Rattle.plant_file.specs.declared.console.ListedConsole.{ListedConsole}
use Rattle.logic_source.specs.Source.{Source}
use Rattle.engine_history.specs.AlarmRow.{AlarmRow}
use Rattle.engine_history.specs.Plants.{PlainPlant}
use Rattle.engine_history.specs.declared.event.Event.TheVariants as event
use Rattle.engine_system.specs.declared.event.EngineFault.TheVariants as refusal
use Rattle.std_blocks.specs.Calls.{Call}
use Rattle.alarm_bank.specs.Reloads.{alarm_of}
use Rattle.alarm_delays.specs.Delays.{counts, kept_scans, scan_of}
use Rattle.engine_system.specs.Reloads.{kept_numbers, kept_count, fresh_count, new_of}
use Rattle.engine_system.specs.System.{opening_alarm, taken_reload}

-- an alarm with a tag, that latches or doesn't, and may be shelved for so long
abbrev row : List ℕ → Bool → ℕ → AlarmRow
row tag latching most = record { tag = tag; area = 0; priority = 1; condition = 0; suppress = None; latching = latching; max_shelve_ms = most; on_delay_ms = 0; text = [] }

-- consoles with these numbers, each with the first area
abbrev console : ℕ → ListedConsole
console number = record { number = number; areas = 0 ∷ [] }

-- a plant of these consoles, alarms and epoch
abbrev plant : Source → List ListedConsole → List AlarmRow → ℕ → PlainPlant
plant source consoles alarms epoch = record { source = source; areas = codes "north" ∷ []; consoles = consoles; alarms = alarms; epoch = epoch }

-- T1, and T2 which latches
abbrev old : Source → PlainPlant
old source = plant source [] (row (codes "T1") false 5000 ∷ row (codes "T2") true 5000 ∷ []) 0

-- T2 in another place goes on, T3 is new, and T1 latches now, so it begins anew
abbrev new : Source → PlainPlant
new source = plant source [] (row (codes "T2") true 100 ∷ row (codes "T3") false 0 ∷ row (codes "T1") true 5000 ∷ []) 0

one_goes_on : (s t : Source) → kept_numbers (old s) (new t) ≡ Some 1 ∷ None ∷ None ∷ []
one_goes_on s t = refl

one_kept : (s t : Source) → kept_count (kept_numbers (old s) (new t)) ≡ 1
one_kept s t = refl

two_fresh : (s t : Source) → fresh_count (kept_numbers (old s) (new t)) ≡ 2
two_fresh s t = refl

letter_case_counts : (s t : Source) → kept_numbers (old s) (plant t [] (row (codes "t1") false 5000 ∷ []) 0) ≡ None ∷ []
letter_case_counts s t = refl

-- an alarm that is shelved until 5100, and was met and suppressed in the last scan
abbrev shelved : ℕ → PlainAlarm
shelved most = record { latching = true; max_shelve_ms = most; state = state.Shelved 5100; condition = true; suppressed = true }

its_state_stays : (s : Source) → alarm_of (opening_alarm (row [] false 0) ∷ shelved 5000 ∷ []) (new_of (old s) (row (codes "T2") true 100)) ≡ shelved 100
its_state_stays s = refl

a_fresh_one_is_normal : (s : Source) (alarms : List PlainAlarm)
    → alarm_of alarms (new_of (old s) (row (codes "T3") false 7)) ≡ record { latching = false; max_shelve_ms = 7; state = state.Norm; condition = false; suppressed = false }
a_fresh_one_is_normal s alarms = refl

-- the first alarm was met at 90, with the delay 100
abbrev seen : List (List Call)
seen = (scan_of true 100 90 ∷ []) ∷ []

-- it goes on with the delay 20, so at 115 its condition counts
its_scans_stay : counts (scan_of true 20 115 ∷ kept_scans seen (Some 0)) ≡ true
its_scans_stay = refl

a_fresh_one_has_seen_none : kept_scans seen None ≡ []
a_fresh_one_has_seen_none = refl

-- of consoles 1 and 2, with the epoch 9
abbrev present : Source → PlainPlant
present source = plant source (console 1 ∷ console 2 ∷ []) [] 9

consoles_come_first : (s t : Source) → taken_reload (present s) 1000000 (plant t (console 2 ∷ console 1 ∷ []) [] 8) ≡ Err refusal.ReloadConsoles
unfolding taken_reload
consoles_come_first s t = refl

a_console_fewer : (s t : Source) → taken_reload (present s) 0 (plant t (console 1 ∷ []) [] 9) ≡ Err refusal.ReloadConsoles
unfolding taken_reload
a_console_fewer s t = refl

then_the_epoch : (s t : Source) → taken_reload (present s) 1000000 (plant t (console 1 ∷ console 2 ∷ []) [] 8) ≡ Err refusal.ReloadEpoch
unfolding taken_reload
then_the_epoch s t = refl

then_a_full_history : (s t : Source) → taken_reload (present s) 1000000 (plant t (console 1 ∷ console 2 ∷ []) [] 9) ≡ Err refusal.HistoryFull
unfolding taken_reload
then_a_full_history s t = refl

taken : (s t : Source) → taken_reload (present s) 999999 (plant t (console 1 ∷ console 2 ∷ []) [] 9) ≡ Ok (event.Reload (plant t (console 1 ∷ console 2 ∷ []) [] 9))
unfolding taken_reload
taken s t = refl
