-- The table of transitions: one definition a column, one line a state; in each line the first test that holds decides.
use Rattle.std.specs.Prelude.{ℕ, ◌+◌, Bool, ◌&&◌, if◌then◌else◌, nat_le, Result, Ok, Err}
use Rattle.alarm_machine.specs.declared.states.AlarmState.{AlarmState}
use Rattle.alarm_machine.specs.declared.states.AlarmState.TheVariants as state
use Rattle.alarm_machine.specs.declared.states.OrderFault.{OrderFault}
use Rattle.alarm_machine.specs.declared.states.OrderFault.TheVariants as fault

-- the state of an alarm that is no longer shelved, suppressed or out of service: c is the condition, s the suppression
abbrev pub resume : Bool → Bool → AlarmState
resume c s = if s then state.Suppr else if c then state.Unack else state.Norm

-- a scan: l is whether the alarm latches, c the condition, s the suppression, t the scan's moment
abbrev pub on_scan : Bool → AlarmState → Bool → Bool → ℕ → AlarmState
on_scan l state.Norm c s t = if s then state.Suppr else if c then state.Unack else state.Norm
on_scan l state.Unack c s t = if s then state.Suppr else if c then state.Unack else if l then state.Latun else state.Rtnun
on_scan l state.Acked c s t = if s then state.Suppr else if c then state.Acked else if l then state.Latak else state.Norm
on_scan l state.Rtnun c s t = if s then state.Suppr else if c then state.Unack else state.Rtnun
on_scan l state.Latun c s t = if s then state.Suppr else if c then state.Unack else state.Latun
on_scan l state.Latak c s t = if s then state.Suppr else if c then state.Unack else state.Latak
on_scan l (state.Shelved e) c s t = if nat_le e t then resume c s else state.Shelved e
on_scan l state.Suppr c s t = resume c s
on_scan l state.Oos c s t = state.Oos

-- the refusal O3
abbrev pub wrong_state : Result AlarmState OrderFault
wrong_state = Err fault.WrongState

-- an acknowledgement
abbrev pub on_ack : AlarmState → Result AlarmState OrderFault
on_ack state.Norm = wrong_state
on_ack state.Unack = Ok state.Acked
on_ack state.Acked = wrong_state
on_ack state.Rtnun = Ok state.Norm
on_ack state.Latun = Ok state.Latak
on_ack state.Latak = wrong_state
on_ack (state.Shelved e) = wrong_state
on_ack state.Suppr = wrong_state
on_ack state.Oos = wrong_state

-- a reset
abbrev pub on_reset : AlarmState → Result AlarmState OrderFault
on_reset state.Norm = wrong_state
on_reset state.Unack = wrong_state
on_reset state.Acked = wrong_state
on_reset state.Rtnun = wrong_state
on_reset state.Latun = wrong_state
on_reset state.Latak = Ok state.Norm
on_reset (state.Shelved e) = wrong_state
on_reset state.Suppr = wrong_state
on_reset state.Oos = wrong_state

-- a new shelf for d milliseconds after the last moment, if d is from 1 to the alarm's longest shelving; else O4
abbrev pub new_shelf : ℕ → ℕ → ℕ → Result AlarmState OrderFault
new_shelf d most last = if nat_le 1 d && nat_le d most then Ok (state.Shelved (last + d)) else Err fault.ShelveTime

-- shelving for d milliseconds: the state is tested before the time
abbrev pub on_shelve : ℕ → ℕ → ℕ → AlarmState → Result AlarmState OrderFault
on_shelve d most last state.Norm = new_shelf d most last
on_shelve d most last state.Unack = new_shelf d most last
on_shelve d most last state.Acked = new_shelf d most last
on_shelve d most last state.Rtnun = new_shelf d most last
on_shelve d most last state.Latun = new_shelf d most last
on_shelve d most last state.Latak = new_shelf d most last
on_shelve d most last (state.Shelved e) = new_shelf d most last
on_shelve d most last state.Suppr = wrong_state
on_shelve d most last state.Oos = wrong_state

-- the end of a shelf by hand, with the condition and suppression of the last scan
abbrev pub on_unshelve : Bool → Bool → AlarmState → Result AlarmState OrderFault
on_unshelve c s (state.Shelved e) = Ok (resume c s)
on_unshelve c s _ = wrong_state

-- removal from service
abbrev pub on_remove : AlarmState → Result AlarmState OrderFault
on_remove state.Oos = wrong_state
on_remove _ = Ok state.Oos

-- return to service, with the condition and suppression of the last scan
abbrev pub on_return : Bool → Bool → AlarmState → Result AlarmState OrderFault
on_return c s state.Oos = Ok (resume c s)
on_return c s _ = wrong_state
