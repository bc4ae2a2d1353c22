-- On-delays of alarms: a condition counts once it has been met for so long, as the Q of a TON whose IN is the condition and whose PT is the delay (IEC 61131-3).
use Rattle.std.specs.Prelude.{◌≡◌, ℕ, zero, suc, ◌++◌, ◌+◌, ◌<◌, ◌≤◌, ◌-◌, pos, Bool, true, false, map, Option, Some, None, List, [], ◌∷◌, length, slice_get, slice_set, slice_index, slice_index_or, ◌⊎◌, is_some, fold, ◌^◌}
use Rattle.alarm_machine.specs.declared.limits.TheConstants.{LAST_MOMENT}
use Rattle.std_blocks.specs.Calls.{Call, call}
use Rattle.std_blocks.specs.Timers.{ton}
use Rattle.std_blocks.specs.States.{ton_state, ton_step, ton_shown}
use Rattle.alarm_machine.specs.Alarms.{PlainAlarm}
use Rattle.alarm_bank.specs.Banks.{scan_each}

-- a scan as an alarm sees it: its condition, its delay in milliseconds, and the moment
abbrev pub scan_of : Bool → ℕ → ℕ → Call
scan_of c delay t = call c (pos delay) t

-- whether the condition of the last of an alarm's scans counts. In a list of scans the latest one comes first
abbrev pub counts : List Call → Bool
counts scans = (ton scans).0

-- the scans of alarms and one more, each with its own condition and delay
abbrev pub scans_each : List Bool → ℕ → List ℕ → List (List Call) → List (List Call)
scans_each (c ∷ cs) t (d ∷ ds) (scans ∷ others) = (scan_of c d t ∷ scans) ∷ scans_each cs t ds others
scans_each (c ∷ cs) t (d ∷ ds) [] = []
scans_each (c ∷ cs) t [] others = []
scans_each [] t ds others = []

-- since when the condition has been met without a break, if it is met
abbrev pub since_of : List Call → Option ℕ
since_of scans = (ton_state scans).start

-- since when it has been met after a scan with this condition, by what that was before
abbrev pub since_after : Bool → ℕ → Option ℕ → Option ℕ
since_after c t since = (ton_step (scan_of c 0 t) (record { start = since })).start

-- whether a condition counts in a scan, by since when it had been met before
abbrev pub delayed : Bool → ℕ → ℕ → Option ℕ → Bool
delayed c delay t since = (ton_shown (scan_of c delay t) (record { start = since })).0

-- whether it counts at a moment that has been met since then
abbrev pub has_come : ℕ → ℕ → Option ℕ → Bool
has_come delay t since = delayed (is_some since) delay t since

-- what is kept of the delays of alarms: the delay of each, since when its condition has been met, and the moment of the last scan
pub record PlainDelays : Type 0 where
  pub delays : List ℕ
  pub since : List (Option ℕ)
  pub last : ℕ

-- the conditions that count, of alarms with these conditions in a scan
abbrev pub delayed_each : List Bool → ℕ → List ℕ → List (Option ℕ) → List Bool
delayed_each (c ∷ cs) t (d ∷ ds) (r ∷ rs) = delayed c d t r ∷ delayed_each cs t ds rs
delayed_each (c ∷ cs) t (d ∷ ds) [] = []
delayed_each (c ∷ cs) t [] rs = []
delayed_each [] t ds rs = []

-- since when they have been met after that
abbrev pub since_each : List Bool → ℕ → List (Option ℕ) → List (Option ℕ)
since_each (c ∷ cs) t (r ∷ rs) = since_after c t r ∷ since_each cs t rs
since_each (c ∷ cs) t [] = []
since_each [] t rs = []

-- what is kept after a scan with these conditions
abbrev pub after_conditions : List Bool → ℕ → PlainDelays → PlainDelays
after_conditions cs t d = record d { since = since_each cs t d.since; last = t }

-- a condition that doesn't count yet at the last moment doesn't come to count before a moment that is kept for it
abbrev pub Wakes : ℕ → List ℕ → List (Option ℕ) → List ℕ → Type 0
Wakes last delays since due = (n delay r : ℕ) → slice_get delays n ≡ Some delay → slice_get since n ≡ Some (Some r) → last - r < delay → slice_index due n ≤ r + delay

-- no condition has been met since a later moment than the last one
abbrev pub ArePast : ℕ → List (Option ℕ) → Type 0
ArePast last since = (n r : ℕ) → slice_get since n ≡ Some (Some r) → r ≤ last

-- whether no alarm has a delay
abbrev pub have_none : List ℕ → Bool
have_none [] = true
have_none (zero ∷ ds) = have_none ds
have_none (suc d ∷ ds) = false

-- what is kept beside the delays
pub record IsDelays (delays : List ℕ) (since : List (Option ℕ)) (last : ℕ) (due : List ℕ) (is_plain : Bool) : Type 0 where
  pub each : length since ≡ length delays
  pub places : length due ≡ length delays
  pub plain : is_plain ≡ have_none delays
  pub few : length delays < 2 ^ 32
  pub in_range : last ≤ LAST_MOMENT
  pub past : ArePast last since
  pub wakes : Wakes last delays since due

-- the last condition of the alarm of a number is the one that counted in the last scan
abbrev pub FollowsAt : PlainDelays → List PlainAlarm → ℕ → Type 0
FollowsAt d alarms n = (a : PlainAlarm) (delay : ℕ) (r : Option ℕ) → slice_get alarms n ≡ Some a → slice_get d.delays n ≡ Some delay → slice_get d.since n ≡ Some r → a.condition ≡ has_come delay d.last r

-- that holds of each alarm
abbrev pub Follows : PlainDelays → List PlainAlarm → Type 0
Follows d alarms = (n : ℕ) → FollowsAt d alarms n

-- the place of the first mark that is set; the number of marks where there is none
pub record IsFirstMark (marks : List Bool) (first : ℕ) : Type 0 where
  pub within : first ≤ length marks
  pub clear : (n : ℕ) → n < first → slice_get marks n ≡ Some false
  pub set : first < length marks → slice_get marks first ≡ Some true

-- an alarm that isn't marked has the condition that it had in the last scan
abbrev pub ConditionsStay : List Bool → List Bool → List (Option ℕ) → Type 0
ConditionsStay marks cs since = (n : ℕ) (r : Option ℕ) → slice_get marks n ≡ Some false → slice_get since n ≡ Some r → slice_get cs n ≡ Some (is_some r)

-- an alarm that isn't marked has the condition and the suppression that it had in the last scan, and its last condition is the one that counted then
pub record RawStay (marks cs ss : List Bool) (d : PlainDelays) (alarms : List PlainAlarm) : Type 0 where
  pub conditions : ConditionsStay marks cs d.since
  pub suppressions : (n : ℕ) (a : PlainAlarm) → slice_get marks n ≡ Some false → slice_get alarms n ≡ Some a → slice_get ss n ≡ Some a.suppressed
  pub counted : (n : ℕ) → slice_get marks n ≡ Some false → FollowsAt d alarms n

-- since when a condition has been met, kept from scan to scan, is as the list of scans has it, and tells whether it counts
abbrev pub DelaysAgree : Type 0
DelaysAgree = (c : Bool) (delay t : ℕ) (scans : List Call)
    → (since_of (scan_of c delay t ∷ scans) ≡ since_after c t (since_of scans)) × (counts (scan_of c delay t ∷ scans) ≡ delayed c delay t (since_of scans))

-- the condition of one alarm is taken in a scan at moment t
abbrev pub put_since : ℕ → List (Option ℕ) → ℕ × Bool → List (Option ℕ)
put_since t since one = slice_set since one.0 (since_after one.1 t (slice_index_or since one.0 None))

-- alarms by their numbers, each with its last condition
abbrev pub last_conditions : List (ℕ × PlainAlarm) → List (ℕ × Bool)
last_conditions moved = map (λ one. (one.0, one.1.condition)) moved

-- the conditions that a scan may have changed, by two lists: those that are met, and where no alarm has a delay also the last ones of the alarms that it moves
abbrev pub told_by : Bool → List (ℕ × Bool) → List (ℕ × PlainAlarm) → List (ℕ × Bool)
told_by true met moved = met ++ last_conditions moved
told_by false met moved = met

-- delays after a scan at moment t by these two lists
abbrev pub after_met : List (ℕ × Bool) → ℕ → List (ℕ × PlainAlarm) → PlainDelays → PlainDelays
after_met met t moved d = record d { since = fold (put_since t) d.since (told_by (have_none d.delays) met moved); last = t }

-- the alarms whose conditions may have changed, from a number on, in order, each with its condition; those of all others stay as they were
abbrev pub AreMet : ℕ → List Bool → List (Option ℕ) → List (ℕ × Bool) → Type 0
AreMet n [] [] met = met ≡ []
AreMet n [] (r ∷ rs) met = ⊥
AreMet n (c ∷ cs) [] met = ⊥
AreMet n (c ∷ cs) (r ∷ rs) met = ((c ≡ is_some r) × AreMet (n + 1) cs rs met) ⊎ ((rest : List (ℕ × Bool)) × (met ≡ (n, c) ∷ rest) × AreMet (n + 1) cs rs rest)

-- since when the condition of a new alarm has been met: as of the old alarm whose scans it keeps, if it keeps some and that one is there; else it isn't met yet
abbrev pub kept_since : List (Option ℕ) → Option ℕ → Option ℕ
kept_since old None = None
kept_since old (Some k) = slice_index_or old k None

-- the scans of a new alarm: those of the old alarm that it keeps, if it keeps some and that one is there; else none
abbrev pub kept_scans : List (List Call) → Option ℕ → List Call
kept_scans old None = []
kept_scans old (Some k) = slice_index_or old k []

-- delays of new alarms, each with the number of the old alarm whose scans it keeps, if it keeps some; the last moment stays
abbrev pub delays_reloaded : List ℕ → List (Option ℕ) → PlainDelays → PlainDelays
delays_reloaded delays kept d = record { delays = delays; since = map (kept_since d.since) kept; last = d.last }

-- since when conditions of new alarms have been met is as the scans that they keep have it
abbrev pub KeptAgree : Type 0
KeptAgree = (scans : List (List Call)) (kept : List (Option ℕ)) → map since_of (map (kept_scans scans) kept) ≡ map (kept_since (map since_of scans)) kept

-- after a scan by the conditions that count, the last condition of each alarm is the one that counted
abbrev pub FollowsOn : Type 0
FollowsOn = (d : PlainDelays) (cs ss : List Bool) (t : ℕ) (alarms : List PlainAlarm) → length cs ≡ length alarms → length ss ≡ length alarms
    → Follows (after_conditions cs t d) (scan_each (delayed_each cs t d.delays d.since) ss t alarms)
