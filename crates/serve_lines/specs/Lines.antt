-- The lines of answers.
use Rattle.std.specs.Prelude.{ℕ, List, [], ◌∷◌, ◌++◌, if◌then◌else◌, Option, codes}
use Rattle.std.specs.Fmt.{decimal, signed_decimal}
use Rattle.std.specs.List.{flat_map}
use Rattle.plant_types.specs.declared.values.Value.{Value}
use Rattle.plant_types.specs.declared.values.Value.TheVariants as value
use Rattle.plant_types.specs.declared.values.Trap.{Trap}
use Rattle.plant_types.specs.Values.{trap_text}
use Rattle.alarm_machine.specs.Codes.{PlainChange, code_text}
use Rattle.alarm_machine.specs.declared.states.Code.{Code}
use Rattle.alarm_machine.specs.Orders.{reply_text}
use Rattle.alarm_machine.specs.declared.states.OrderFault.{OrderFault}

-- a line: its name, each field after one space, LF
abbrev pub line_of : List ℕ → List (List ℕ) → List ℕ
line_of name fields = name ++ flat_map (λ field. 32 ∷ field) fields ++ 10 ∷ []

-- the text of a value: TRUE, FALSE, a number, for a TIME its milliseconds
abbrev pub value_text : Value → List ℕ
value_text (value.Bool b) = if b then codes "TRUE" else codes "FALSE"
value_text (value.Dint n) = signed_decimal n
value_text (value.Time n) = signed_decimal n

-- the line for a program that stopped, at a statement of the body with this path
unfoldable pub fault_line : ℕ → List ℕ → ℕ → Trap → List ℕ
fault_line moment path statement trap = line_of (codes "FAULT") (decimal moment ∷ path ∷ decimal statement ∷ trap_text trap ∷ [])

-- what the lines of a moment begin with that tell of alarms
abbrev pub alarm_front : ℕ → List ℕ
alarm_front moment = codes "ALARM " ++ decimal moment ++ 32 ∷ []

-- the line for an alarm whose code changed
unfoldable pub alarm_line : ℕ → List ℕ → PlainChange → List ℕ
alarm_line moment tag change = line_of (codes "ALARM") (decimal moment ∷ tag ∷ code_text change.from ∷ code_text change.to ∷ [])

-- what the lines of a moment begin with that tell of outputs
abbrev pub out_front : ℕ → List ℕ
out_front moment = codes "OUT " ++ decimal moment ++ 32 ∷ []

-- the line for an output whose value changed
unfoldable pub out_line : ℕ → List ℕ → Value → List ℕ
out_line moment name value = line_of (codes "OUT") (decimal moment ∷ name ∷ value_text value ∷ [])

-- the line at the end of a scan's answer, with the number of lines before it
unfoldable pub done_line : ℕ → ℕ → List ℕ
done_line moment lines = line_of (codes "DONE") (decimal moment ∷ decimal lines ∷ [])

-- the line with the reply to an order
unfoldable pub reply_line : Option OrderFault → List ℕ
reply_line refused = line_of (codes "REPLY") (reply_text refused ∷ [])

-- the line for the refusal of a line or an event, by its number
unfoldable pub refused_line : List ℕ → List ℕ
refused_line number = line_of (codes "REFUSED") (number ∷ [])

-- the line of a reload: how many alarms of the new plant keep their states, and how many are new
unfoldable pub reloaded_line : ℕ → ℕ → List ℕ
reloaded_line kept fresh = line_of (codes "RELOADED") (codes "KEPT" ∷ decimal kept ∷ codes "NEW" ∷ decimal fresh ∷ [])

-- the line of an alarm that isn't normal: its tag, its code, its priority
unfoldable pub state_line : List ℕ → Code → ℕ → List ℕ
state_line tag code priority = line_of (codes "STATE") (tag ∷ code_text code ∷ decimal priority ∷ [])

-- the line for how many alarms of an area and a priority have a code
unfoldable pub count_line : List ℕ → ℕ → Code → ℕ → List ℕ
count_line area priority code count = line_of (codes "COUNT") (area ∷ decimal priority ∷ code_text code ∷ decimal count ∷ [])

-- the line of a row of the journal: its text, LF
abbrev pub row_line : List ℕ → List ℕ
row_line text = line_of text []

-- the line at the end of a list or a journal, with the number of lines before it
unfoldable pub end_line : ℕ → List ℕ
end_line lines = line_of (codes "END") (decimal lines ∷ [])
