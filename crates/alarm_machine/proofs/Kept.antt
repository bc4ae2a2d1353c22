-- What a kept state tells.
use Rattle.std.proofs.Common.{◌≡◌, refl}
use Rattle.alarm_machine.specs.declared.states.AlarmState.{AlarmState}
use Rattle.alarm_machine.specs.declared.states.AlarmState.TheVariants as state
use Rattle.alarm_machine.specs.Codes.{code_of}
use Rattle.alarm_machine.specs.Kept.{state_of, kept_end}

-- a state is the one of its code and its end
pub state_back : (s : AlarmState) → state_of (code_of s) (kept_end s) ≡ s
state_back state.Norm = refl
state_back state.Unack = refl
state_back state.Acked = refl
state_back state.Rtnun = refl
state_back state.Latun = refl
state_back state.Latak = refl
state_back (state.Shelved end) = refl
state_back state.Suppr = refl
state_back state.Oos = refl
