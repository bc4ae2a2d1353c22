-- The codes of an alarm's states, how they are printed, and when a code has changed.
use Rattle.std.specs.Prelude.{ℕ, ◌==◌, Bool, if◌then◌else◌, Option, Some, None, List, codes}
use Rattle.alarm_machine.specs.declared.states.Code.{Code}
use Rattle.alarm_machine.specs.declared.states.Code.TheVariants as code
use Rattle.alarm_machine.specs.declared.states.AlarmState.{AlarmState}
use Rattle.alarm_machine.specs.declared.states.AlarmState.TheVariants as state

-- the code of a state: its name without the end of a shelf
abbrev pub code_of : AlarmState → Code
code_of state.Norm = code.Norm
code_of state.Unack = code.Unack
code_of state.Acked = code.Acked
code_of state.Rtnun = code.Rtnun
code_of state.Latun = code.Latun
code_of state.Latak = code.Latak
code_of (state.Shelved e) = code.Shelved
code_of state.Suppr = code.Suppr
code_of state.Oos = code.Oos

-- the text of a code
abbrev pub code_text : Code → List ℕ
code_text code.Norm = codes "NORM"
code_text code.Unack = codes "UNACK"
code_text code.Acked = codes "ACKED"
code_text code.Rtnun = codes "RTNUN"
code_text code.Latun = codes "LATUN"
code_text code.Latak = codes "LATAK"
code_text code.Shelved = codes "SHELVED"
code_text code.Suppr = codes "SUPPR"
code_text code.Oos = codes "OOS"

-- the place of a code in the list of codes, from 0
abbrev pub rank : Code → ℕ
rank code.Norm = 0
rank code.Unack = 1
rank code.Acked = 2
rank code.Rtnun = 3
rank code.Latun = 4
rank code.Latak = 5
rank code.Shelved = 6
rank code.Suppr = 7
rank code.Oos = 8

-- whether two codes are the same
abbrev pub same_code : Code → Code → Bool
same_code a b = rank a == rank b

-- a change of a code: the code before and the code after
pub record PlainChange : Type 0 where
  pub from : Code
  pub to : Code

-- the change from one code to another, if they differ
abbrev pub change_between : Code → Code → Option PlainChange
change_between a b = if same_code a b then None else Some (record { from = a; to = b })
