-- One alarm: what it stores, and how scans and orders change it by the table of transitions.
use Rattle.std.specs.Prelude.{◌≡◌, ℕ, ◌+◌, ◌≤◌, Bool, true, false, ◌&&◌, not, Option, Some, None, Result, Ok, Err}
use Rattle.alarm_machine.specs.declared.states.AlarmState.{AlarmState}
use Rattle.alarm_machine.specs.declared.states.AlarmState.TheVariants as state
use Rattle.alarm_machine.specs.declared.states.Verb.{Verb}
use Rattle.alarm_machine.specs.declared.states.Verb.TheVariants as verb
use Rattle.alarm_machine.specs.declared.states.OrderFault.{OrderFault}
use Rattle.alarm_machine.specs.declared.limits.TheConstants.{LAST_MOMENT, LONGEST_SHELVE_MS}
use Rattle.alarm_machine.specs.Codes.{PlainChange, code_of, change_between}
use Rattle.alarm_machine.specs.Transitions.{on_scan, on_ack, on_reset, on_shelve, on_unshelve, on_remove, on_return, wrong_state}

-- an alarm: whether it latches, its longest shelving, its state, and the condition and suppression of the last scan
pub record PlainAlarm : Type 0 where
  pub latching : Bool
  pub max_shelve_ms : ℕ
  pub state : AlarmState
  pub condition : Bool
  pub suppressed : Bool

-- an alarm before the first scan: it is normal, its last condition and suppression are FALSE
abbrev pub new_alarm : Bool → ℕ → PlainAlarm
new_alarm latching max_shelve_ms = record { latching = latching; max_shelve_ms = max_shelve_ms; state = state.Norm; condition = false; suppressed = false }

-- an alarm that keeps what another one had: the state with the end of its shelf, and the last condition and suppression; whether it latches and its longest shelving are its own
abbrev pub keeping : PlainAlarm → PlainAlarm → PlainAlarm
keeping old a = record a { state = old.state; condition = old.condition; suppressed = old.suppressed }

-- an alarm after a scan with condition c, suppression s and moment t
abbrev pub after_scan : Bool → Bool → ℕ → PlainAlarm → PlainAlarm
after_scan c s t a = record a { state = on_scan a.latching a.state c s t; condition = c; suppressed = s }

-- the state after an order, or its refusal; last is the moment of the last scan; a restart is only for programs
abbrev pub on_order : Verb → ℕ → PlainAlarm → Result AlarmState OrderFault
on_order verb.Ack last a = on_ack a.state
on_order verb.Reset last a = on_reset a.state
on_order (verb.Shelve d) last a = on_shelve d a.max_shelve_ms last a.state
on_order verb.Unshelve last a = on_unshelve a.condition a.suppressed a.state
on_order verb.Remove last a = on_remove a.state
on_order verb.PutBack last a = on_return a.condition a.suppressed a.state
on_order verb.Restart last a = wrong_state

-- an alarm after an order, or the refusal
abbrev pub after_order : Verb → ℕ → PlainAlarm → Result PlainAlarm OrderFault
after_order v last a = elim (on_order v last a) [ Ok new ↦ Ok (record a { state = new }) | Err e ↦ Err e ]

-- an order that is taken leaves the new alarm and returns the change of its code; a refused one leaves the old alarm and returns the refusal
abbrev pub AnswersOrder : Result PlainAlarm OrderFault → PlainAlarm → PlainAlarm → Result (Option PlainChange) OrderFault → Type 0
AnswersOrder (Ok a) old new r = (new ≡ a) × (r ≡ Ok (change_between (code_of old.state) (code_of a.state)))
AnswersOrder (Err e) old new r = (new ≡ old) × (r ≡ Err e)

-- the moment at which a state's shelf ends
abbrev pub end_of : AlarmState → Option ℕ
end_of (state.Shelved e) = Some e
end_of _ = None

-- a shelf ends at most the longest shelving after the last moment
abbrev pub EndsInRange : AlarmState → Type 0
EndsInRange (state.Shelved e) = e ≤ LAST_MOMENT + LONGEST_SHELVE_MS
EndsInRange _ = Unit {0}

-- whether a state is one that a scan with this condition and suppression can leave
abbrev pub is_settled : AlarmState → Bool → Bool → Bool
is_settled state.Norm c s = not c && not s
is_settled state.Unack c s = c && not s
is_settled state.Acked c s = c && not s
is_settled state.Rtnun c s = not c && not s
is_settled state.Latun c s = not c && not s
is_settled state.Latak c s = not c && not s
is_settled (state.Shelved e) c s = true
is_settled state.Suppr c s = s
is_settled state.Oos c s = true

-- what holds of every alarm
pub record IsAlarm (a : PlainAlarm) : Type 0 where
  pub most_in_range : a.max_shelve_ms ≤ LONGEST_SHELVE_MS
  pub end_in_range : EndsInRange a.state
  pub settled : is_settled a.state a.condition a.suppressed ≡ true
