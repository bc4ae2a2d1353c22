-- All alarms together: each takes its step by itself.
use Rattle.std.specs.Prelude.{◌≡◌, ℕ, ◌^◌, ◌<◌, ◌≤◌, ◌==◌, Bool, true, ◌&&◌, if◌then◌else◌, nat_le, Option, Some, None, Ok, Err, List, [], ◌∷◌, length, map, All, slice_get, slice_set}
use Rattle.std.specs.declared.result.Result.{Result}
use Rattle.alarm_machine.specs.declared.limits.TheConstants.{LAST_MOMENT}
use Rattle.alarm_machine.specs.declared.states.Verb.{Verb}
use Rattle.alarm_machine.specs.declared.states.OrderFault.{OrderFault}
use Rattle.alarm_machine.specs.declared.states.OrderFault.TheVariants as fault
use Rattle.alarm_machine.specs.Codes.{PlainChange, code_of, change_between}
use Rattle.alarm_machine.specs.Alarms.{PlainAlarm, after_scan, after_order, end_of, EndsInRange, is_settled}
use Rattle.alarm_bank.specs.declared.event.BankEvent.{BankEvent}
use Rattle.alarm_bank.specs.declared.event.BankEvent.TheVariants as event
use Rattle.alarm_bank.specs.declared.rows.Site.{Site}
use Rattle.alarm_counts.specs.declared.counted.Counted.{Counted}

-- the areas and priorities of the alarms, the alarms, and the moment of the last scan, 0 before the first
pub record PlainBank : Type 0 where
  pub sites : List Site
  pub alarms : List PlainAlarm
  pub moment : ℕ

-- an area is one of so many, and a priority is 1 to 4
pub record IsSite (areas : ℕ) (site : Site) : Type 0 where
  pub area : site.area < areas
  pub lowest : 1 ≤ site.priority
  pub highest : site.priority ≤ 4

-- a scan of each alarm by itself, with its own condition and suppression
abbrev pub scan_each : List Bool → List Bool → ℕ → List PlainAlarm → List PlainAlarm
scan_each (c ∷ cs) (s ∷ ss) t (a ∷ xs) = after_scan c s t a ∷ scan_each cs ss t xs
scan_each (c ∷ cs) (s ∷ ss) t [] = []
scan_each (c ∷ cs) [] t xs = xs
scan_each [] ss t xs = xs

-- whether a scan has a condition and a suppression for each alarm, and a moment within the range
abbrev pub scan_fits : ℕ → List Bool → List Bool → PlainBank → Bool
scan_fits t cs ss b = (length cs == length b.alarms) && (length ss == length b.alarms) && nat_le t LAST_MOMENT

-- what an order makes of an alarm, if it is there
abbrev pub order_one : ℕ → Verb → PlainBank → Option (Result PlainAlarm OrderFault)
order_one n v b = elim (slice_get b.alarms n) [ None ↦ None | Some a ↦ Some (after_order v b.moment a) ]

-- the bank after an event; one that doesn't fit, or is refused, changes nothing. A bank has no places for other alarms, so a reload doesn't fit
abbrev pub after_event : BankEvent → PlainBank → PlainBank
after_event (event.Scan t cs ss) b = if scan_fits t cs ss b then record b { alarms = scan_each cs ss t b.alarms; moment = t } else b
after_event (event.Order n v) b = elim (order_one n v b) [
  | None ↦ b
  | Some r ↦ elim r [ Ok a ↦ record b { alarms = slice_set b.alarms n a } | Err e ↦ b ]
]
after_event (event.Reload news) b = b

-- what an order to an alarm is answered
abbrev pub told : PlainAlarm → Result PlainAlarm OrderFault → Result (Option PlainChange) OrderFault
told old (Ok new) = Ok (change_between (code_of old.state) (code_of new.state))
told old (Err e) = Err e

-- what an order to an alarm would be answered now
abbrev pub reply_of : ℕ → Verb → PlainBank → Result (Option PlainChange) OrderFault
reply_of n v b = elim (slice_get b.alarms n) [ None ↦ Err fault.UnknownTarget | Some a ↦ told a (after_order v b.moment a) ]

-- the alarms as they are counted: the area and priority of each, and the code that it has now
abbrev pub counted : List Site → List PlainAlarm → List Counted
counted (site ∷ sites) (a ∷ alarms) = record { area = site.area; priority = site.priority; code = code_of a.state } ∷ counted sites alarms
counted (site ∷ sites) [] = []
counted [] alarms = []

-- the end of a shelf, the greatest number of 64 bits where there is none
abbrev pub end_or_never : Option ℕ → ℕ
end_or_never (Some e) = e
end_or_never None = 18446744073709551615

-- an alarm's state is one that a scan with its last condition and suppression can leave
abbrev pub IsSettled : PlainAlarm → Type 0
IsSettled a = is_settled a.state a.condition a.suppressed ≡ true

-- what is kept beside the alarms
pub record IsBank (sites : List Site) (alarms : List PlainAlarm) (moment : ℕ) (rows : List Counted) (ends : List ℕ) : Type 0 where
  pub each : length sites ≡ length alarms
  pub few : length alarms < 2 ^ 32
  pub in_range : moment ≤ LAST_MOMENT
  pub rows_are : rows ≡ counted sites alarms
  pub ends_are : ends ≡ map (λ a. end_or_never (end_of a.state)) alarms
  pub in_time : All (λ a. EndsInRange a.state) alarms
  pub settled : All IsSettled alarms

-- the least end of the alarms that are shelved
pub record IsNextEnd (e : ℕ) (alarms : List PlainAlarm) : Type 0 where
  pub there : (k : ℕ) × (a : PlainAlarm) × (slice_get alarms k ≡ Some a) × (end_of a.state ≡ Some e)
  pub least : (k : ℕ) (a : PlainAlarm) (f : ℕ) → slice_get alarms k ≡ Some a → end_of a.state ≡ Some f → e ≤ f

-- no alarm is shelved
abbrev pub NoneShelved : List PlainAlarm → Type 0
NoneShelved alarms = (k : ℕ) (a : PlainAlarm) → slice_get alarms k ≡ Some a → end_of a.state ≡ None
