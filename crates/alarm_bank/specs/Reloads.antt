-- The alarms of a plant that takes the place of another one while it runs.
use Rattle.std.specs.Prelude.{ℕ, ◌≤◌, Bool, true, ◌&&◌, if◌then◌else◌, nat_le, nat_lt, Option, Some, None, List, [], ◌∷◌, length, map, slice_get}
use Rattle.alarm_machine.specs.declared.limits.TheConstants.{LAST_MOMENT, LONGEST_SHELVE_MS}
use Rattle.alarm_machine.specs.Alarms.{PlainAlarm, new_alarm, keeping}
use Rattle.alarm_bank.specs.declared.rows.Site.{Site}
use Rattle.alarm_bank.specs.declared.rows.NewAlarm.{NewAlarm}
use Rattle.alarm_bank.specs.declared.event.BankEvent.{BankEvent}
use Rattle.alarm_bank.specs.declared.event.BankEvent.TheVariants as event
use Rattle.alarm_bank.specs.Banks.{PlainBank, after_event}

-- a new alarm before its first scan: it is normal, its last condition and suppression are FALSE
abbrev pub opened : NewAlarm → PlainAlarm
opened new = new_alarm new.latching new.max_shelve_ms

-- an alarm that keeps what an old one had, if there is one
abbrev pub keeping_some : Option PlainAlarm → PlainAlarm → PlainAlarm
keeping_some None a = a
keeping_some (Some old) a = keeping old a

-- what a new alarm is after old ones: it keeps the state of the one of its kept number, and else it is as before its first scan. A number that isn't there doesn't fit
abbrev pub alarm_of : List PlainAlarm → NewAlarm → PlainAlarm
alarm_of old new = elim new.kept [ None ↦ opened new | Some k ↦ keeping_some (slice_get old k) (opened new) ]

-- the areas and priorities of new alarms
abbrev pub sites_of : List NewAlarm → List Site
sites_of news = map (λ (new : NewAlarm). new.site) news

-- a bank with new alarms in the place of its own: the moment stays
abbrev pub bank_reloaded : List NewAlarm → PlainBank → PlainBank
bank_reloaded news b = record b { sites = sites_of news; alarms = map (alarm_of b.alarms) news }

-- the longest shelving of a new alarm is at most 30 days
abbrev pub IsShelvable : NewAlarm → Type 0
IsShelvable new = new.max_shelve_ms ≤ LONGEST_SHELVE_MS

-- an annunciator: the alarms as a bank has them, and for how many there are places
pub record PlainAnnunciator : Type 0 where
  pub bank : PlainBank
  pub places : ℕ

-- what holds of every annunciator: its alarms have places, and each of its lists has room for as many as there are places
pub record IsAnnunciator (alarms : List PlainAlarm) (moment places sites_room alarms_room spare_room : ℕ) : Type 0 where
  pub within : length alarms ≤ places
  pub in_range : moment ≤ LAST_MOMENT
  pub sites : places ≤ sites_room
  pub alarms_fit : places ≤ alarms_room
  pub spare : places ≤ spare_room

-- whether the old alarm whose state a new one keeps is there, of so many
abbrev pub is_there : ℕ → Option ℕ → Bool
is_there count None = true
is_there count (Some k) = nat_lt k count

-- whether a new alarm may take its place after so many old ones: its longest shelving is in range, and an old alarm that it keeps is there
abbrev pub fits_in : ℕ → NewAlarm → Bool
fits_in count new = nat_le new.max_shelve_ms LONGEST_SHELVE_MS && is_there count new.kept

-- whether all may
abbrev pub all_fit : ℕ → List NewAlarm → Bool
all_fit count [] = true
all_fit count (new ∷ news) = fits_in count new && all_fit count news

-- whether new alarms may take the places of an annunciator's: there are places for them, and each may take its own
abbrev pub reload_fits : List NewAlarm → PlainAnnunciator → Bool
reload_fits news p = nat_le (length news) p.places && all_fit (length p.bank.alarms) news

-- an annunciator whose alarms' places were taken by new ones
abbrev pub reloaded_in : List NewAlarm → PlainAnnunciator → PlainAnnunciator
reloaded_in news p = record p { bank = bank_reloaded news p.bank }

-- an annunciator after an event; one that doesn't fit, or is refused, changes nothing
abbrev pub annunciator_after : BankEvent → PlainAnnunciator → PlainAnnunciator
annunciator_after (event.Scan t cs ss) p = record p { bank = after_event (event.Scan t cs ss) p.bank }
annunciator_after (event.Order n v) p = record p { bank = after_event (event.Order n v) p.bank }
annunciator_after (event.Reload news) p = if reload_fits news p then reloaded_in news p else p
