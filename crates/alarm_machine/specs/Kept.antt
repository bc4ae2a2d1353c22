-- How an alarm keeps its state: by the code, and the end of a shelf.
use Rattle.std.specs.Prelude.{◌≡◌, ℕ, refl}
use Rattle.alarm_machine.specs.declared.states.Code.{Code}
use Rattle.alarm_machine.specs.declared.states.Code.TheVariants as code
use Rattle.alarm_machine.specs.declared.states.AlarmState.{AlarmState}
use Rattle.alarm_machine.specs.declared.states.AlarmState.TheVariants as state
use Rattle.alarm_machine.specs.Codes.{code_of}

-- the state of a code; only a shelf has an end
abbrev pub state_of : Code → ℕ → AlarmState
state_of code.Norm end = state.Norm
state_of code.Unack end = state.Unack
state_of code.Acked end = state.Acked
state_of code.Rtnun end = state.Rtnun
state_of code.Latun end = state.Latun
state_of code.Latak end = state.Latak
state_of code.Shelved end = state.Shelved end
state_of code.Suppr end = state.Suppr
state_of code.Oos end = state.Oos

-- the end of a state's shelf, 0 where it has none
abbrev pub kept_end : AlarmState → ℕ
kept_end (state.Shelved end) = end
kept_end _ = 0

-- the code of the state that a code stands for is that code
pub code_back : (c : Code) (end : ℕ) → code_of (state_of c end) ≡ c
code_back code.Norm end = refl
code_back code.Unack end = refl
code_back code.Acked end = refl
code_back code.Rtnun end = refl
code_back code.Latun end = refl
code_back code.Latak end = refl
code_back code.Shelved end = refl
code_back code.Suppr end = refl
code_back code.Oos end = refl
