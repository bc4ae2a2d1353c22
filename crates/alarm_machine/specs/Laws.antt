-- Laws of the table of transitions and of the codes.
use Rattle.std.specs.Prelude.{◌≡◌, ℕ, Bool, true, false, nat_le, None, Ok}
use Rattle.alarm_machine.specs.declared.states.Code.{Code}
use Rattle.alarm_machine.specs.declared.states.AlarmState.{AlarmState}
use Rattle.alarm_machine.specs.declared.states.AlarmState.TheVariants as state
use Rattle.alarm_machine.specs.declared.states.Verb.{Verb}
use Rattle.alarm_machine.specs.declared.states.Verb.TheVariants as verb
use Rattle.alarm_machine.specs.Codes.{code_text, change_between}
use Rattle.alarm_machine.specs.Transitions.{on_scan}
use Rattle.alarm_machine.specs.Alarms.{PlainAlarm, IsAlarm, after_scan, on_order, is_settled}

-- codes that are printed alike are the same
abbrev pub CodesPrintDifferently : Type 0
CodesPrintDifferently = (a b : Code) → code_text a ≡ code_text b → a ≡ b

-- a change is reported wherever two codes differ
abbrev pub CodeChangesAreReported : Type 0
CodeChangesAreReported = (a b : Code) → change_between a b ≡ None → a ≡ b

-- whether a shelf ends by moment t
abbrev pub shelf_ends : ℕ → AlarmState → Bool
shelf_ends t (state.Shelved e) = nat_le e t
shelf_ends t _ = false

-- a second scan with the same condition and suppression changes nothing, unless a shelf ends
abbrev pub RepeatedScanChangesNothing : Type 0
RepeatedScanChangesNothing = (c s : Bool) (t u : ℕ) (a : PlainAlarm) → shelf_ends u (after_scan c s t a).state ≡ false → after_scan c s u (after_scan c s t a) ≡ after_scan c s t a

-- whether a state waits for an acknowledgement
abbrev pub waits_for_ack : AlarmState → Bool
waits_for_ack state.Unack = true
waits_for_ack state.Rtnun = true
waits_for_ack state.Latun = true
waits_for_ack _ = false

-- a scan without suppression leaves every alarm waiting that waits for an acknowledgement
abbrev pub NoUnsuppressedScanAcknowledges : Type 0
NoUnsuppressedScanAcknowledges = (l c : Bool) (t : ℕ) (x : AlarmState) → waits_for_ack x ≡ true → waits_for_ack (on_scan l x c false t) ≡ true

-- whether an alarm is neither shelved nor out of service
abbrev pub in_service : AlarmState → Bool
in_service (state.Shelved e) = false
in_service state.Oos = false
in_service _ = true

-- a scan with a condition and no suppression leaves an alarm in service unacknowledged that had no condition before
abbrev pub NewConditionInServiceNeedsAck : Type 0
NewConditionInServiceNeedsAck = (l s : Bool) (t : ℕ) (x : AlarmState) → is_settled x false s ≡ true → in_service x ≡ true → on_scan l x true false t ≡ state.Unack

-- whether an operator is shown that the condition stands
abbrev pub shows_condition : AlarmState → Bool
shows_condition state.Unack = true
shows_condition state.Acked = true
shows_condition _ = false

-- a scan with a condition and no suppression leaves an alarm shown, unless it is then shelved or out of service
abbrev pub StandingConditionIsShown : Type 0
StandingConditionIsShown = (l : Bool) (t : ℕ) (x : AlarmState) → in_service (on_scan l x true false t) ≡ true → shows_condition (on_scan l x true false t) ≡ true

-- no order takes an alarm from view whose condition stands and that isn't suppressed, unless it shelves it or takes it out of service
abbrev pub NoOrderHidesStandingCondition : Type 0
NoOrderHidesStandingCondition = (v : Verb) (last : ℕ) (a : PlainAlarm) (x : AlarmState) → IsAlarm a → a.condition ≡ true → a.suppressed ≡ false
    → on_order v last a ≡ Ok x → in_service x ≡ true → shows_condition x ≡ true

-- an alarm that waits for an acknowledgement goes on waiting after every order but an acknowledgement, unless it is shelved or taken out of service
abbrev pub OnlyAckAcknowledges : Type 0
OnlyAckAcknowledges = (v : Verb) (last : ℕ) (a : PlainAlarm) (x : AlarmState) → waits_for_ack a.state ≡ true → on_order v last a ≡ Ok x → in_service x ≡ true → v ≡ verb.Ack

-- whether an alarm is latched: its condition has ended, and it waits for a reset
abbrev pub is_latched : AlarmState → Bool
is_latched state.Latun = true
is_latched state.Latak = true
is_latched _ = false

-- a scan without condition and suppression leaves a latched alarm as it is
abbrev pub LatchOutlastsScans : Type 0
LatchOutlastsScans = (l : Bool) (t : ℕ) (x : AlarmState) → is_latched x ≡ true → on_scan l x false false t ≡ x

-- of the orders, a reset alone makes a latched alarm normal
abbrev pub OnlyResetEndsLatch : Type 0
OnlyResetEndsLatch = (v : Verb) (last : ℕ) (a : PlainAlarm) → is_latched a.state ≡ true → on_order v last a ≡ Ok state.Norm → v ≡ verb.Reset
