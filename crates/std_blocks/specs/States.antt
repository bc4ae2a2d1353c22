-- What a timer keeps of the list of all its calls: enough for all later calls.
use Rattle.std.specs.Prelude.{ℕ, ℤ, pos, ◌-◌, min, nat_lt, Bool, true, false, not, List, [], ◌∷◌, Option, Some, None, if◌then◌else◌}
use Rattle.std_blocks.specs.Calls.{Call, preset, run_on, run_off, was_on, first_moment}
use Rattle.std_blocks.specs.declared.tof.Fall.{Fall}
use Rattle.std_blocks.specs.declared.tof.Fall.TheVariants as fall

-- the moment at which a run began, if there is one
abbrev pub began : List Call → Option ℕ
began [] = None
began (c ∷ calls) = Some (first_moment c.moment calls)

-- when the present run of calls with IN TRUE began, if there is one
pub record PlainTonState : Type 0 where
  pub start : Option ℕ

abbrev pub ton_state : List Call → PlainTonState
ton_state calls = record { start = began (run_on calls) }

-- the moment at which the run that a call with IN TRUE goes on with began: its own where there was no run
abbrev pub moment_or : ℕ → Option ℕ → ℕ
moment_or moment None = moment
moment_or moment (Some start) = start

-- a TON's state after a call, by that before it
abbrev pub ton_step : Call → PlainTonState → PlainTonState
ton_step c state = record { start = if c.input then Some (moment_or c.moment state.start) else None }

-- Q and ET of a TON at a call, by when the run began that the call ends
abbrev pub on_shown : Call → Option ℕ → Bool × ℤ
on_shown c None = (false, pos 0)
on_shown c (Some start) = (not (nat_lt (c.moment - start) (preset c.pt)), pos (min (c.moment - start) (preset c.pt)))

-- Q and ET that a call of a TON gives, by the state before it
abbrev pub ton_shown : Call → PlainTonState → Bool × ℤ
ton_shown c state = on_shown c (ton_step c state).start

-- what a TOF has seen of IN
pub record PlainTofState : Type 0 where
  pub fall : Fall

-- by whether a call had IN TRUE, and when the run of calls after the last of these began
abbrev pub fall_of : Bool → Option ℕ → Fall
fall_of false since = fall.Never
fall_of true None = fall.On
fall_of true (Some moment) = fall.Since moment

abbrev pub tof_state : List Call → PlainTofState
tof_state calls = record { fall = fall_of (was_on calls) (began (run_off calls)) }

-- what a TOF has seen of IN after a call with IN FALSE
abbrev pub fallen : ℕ → Fall → Fall
fallen moment fall.Never = fall.Never
fallen moment fall.On = fall.Since moment
fallen moment (fall.Since since) = fall.Since since

-- a TOF's state after a call, by that before it
abbrev pub tof_step : Call → PlainTofState → PlainTofState
tof_step c state = record { fall = if c.input then fall.On else fallen c.moment state.fall }

-- Q and ET of a TOF at a call, by what it has seen of IN, this call's too
abbrev pub off_shown : Call → Fall → Bool × ℤ
off_shown c fall.Never = (false, pos 0)
off_shown c fall.On = (true, pos 0)
off_shown c (fall.Since since) = (nat_lt (c.moment - since) (preset c.pt), pos (min (c.moment - since) (preset c.pt)))

-- Q and ET that a call of a TOF gives, by the state before it
abbrev pub tof_shown : Call → PlainTofState → Bool × ℤ
tof_shown c state = off_shown c (tof_step c state).fall
