-- What is answered to `list` and to `journal`.
use Rattle.std.specs.Prelude.{◌≡◌, ℕ, zero, suc, ◌-◌, ◌==◌, if◌then◌else◌, List, [], ◌∷◌, ◌++◌, length, map, slice_get, Option, Some, None, codes}
use Rattle.std.specs.List.{flat_map}
use Rattle.std.specs.Option.{option_map}
use Rattle.std.specs.Io.KnownBytes.{Appends}
use Rattle.alarm_machine.specs.declared.states.AlarmState.{AlarmState}
use Rattle.alarm_machine.specs.declared.states.Code.{Code}
use Rattle.alarm_machine.specs.declared.states.Code.TheVariants as code
use Rattle.alarm_machine.specs.Codes.{code_of, same_code}
use Rattle.alarm_bank.specs.Counted.{Counted}
use Rattle.alarm_bank.specs.Counts.{count_of}
use Rattle.serve_lines.specs.Lines.{state_line, count_line, row_line, end_line}
use Rattle.engine.specs.Plants.{PlainPlant}
use Rattle.engine.specs.Names.{tag_of, area_of, priority_of}
use Rattle.engine.specs.Event.{Event}
use Rattle.engine.specs.Journal.{NamedRow, named_text, journal_of}
use Rattle.engine.specs.System.{System, summary_of}
use Rattle.serve_answers.specs.declared.spilling.Half.{Half}
use Rattle.serve_answers.specs.declared.spilling.Half.TheVariants as half

-- lines, one after another
abbrev pub text_of : List (List ℕ) → List ℕ
text_of lines = flat_map (λ line. line) lines

-- lines, and then END with how many they are
abbrev pub with_end : List (List ℕ) → List ℕ
with_end lines = text_of lines ++ end_line (length lines)

-- the lines for each of the numbers below one, in their order
abbrev pub lines_below : (ℕ → List (List ℕ)) → ℕ → List (List ℕ)
lines_below lines zero = []
lines_below lines (suc n) = lines_below lines n ++ lines n

-- ---- the list of alarms

-- the STATE line of an alarm in a state; none where it is NORM
abbrev pub shown_state : PlainPlant → ℕ → AlarmState → List (List ℕ)
shown_state plant alarm state = if same_code (code_of state) code.Norm then [] else state_line (tag_of plant alarm) (code_of state) (priority_of plant alarm) ∷ []

-- the same, if the alarm is there
abbrev pub shown_alarm : PlainPlant → ℕ → Option AlarmState → List (List ℕ)
shown_alarm plant alarm None = []
shown_alarm plant alarm (Some state) = shown_state plant alarm state

-- the STATE line of the alarm of a number
unfoldable pub state_lines_of : System → ℕ → List (List ℕ)
state_lines_of sys alarm = shown_alarm sys.plant alarm (option_map (λ a. a.state) (slice_get sys.alarms alarm))

-- a STATE line for each alarm that isn't NORM, in the order of the database
abbrev pub state_lines : System → List (List ℕ)
state_lines sys = lines_below (state_lines_of sys) (length sys.plant.alarms)

-- the COUNT line of an area, a priority and a code, by the alarms as they are counted; none where there is no such alarm
unfoldable pub code_lines : PlainPlant → List Counted → ℕ → ℕ → Code → List (List ℕ)
code_lines plant counted area priority c =
    if count_of area priority c counted == 0 then [] else count_line (area_of plant area) priority c (count_of area priority c counted) ∷ []

-- the codes, in the order in which they are listed
abbrev pub all_codes : List Code
all_codes = code.Norm ∷ code.Unack ∷ code.Acked ∷ code.Rtnun ∷ code.Latun ∷ code.Latak ∷ code.Shelved ∷ code.Suppr ∷ code.Oos ∷ []

-- the COUNT lines of an area and a priority, by codes
unfoldable pub priority_lines : PlainPlant → List Counted → ℕ → ℕ → List (List ℕ)
priority_lines plant counted area priority = flat_map (code_lines plant counted area priority) all_codes

-- the COUNT lines of an area, by priorities
unfoldable pub area_lines : PlainPlant → List Counted → ℕ → List (List ℕ)
area_lines plant counted area = flat_map (priority_lines plant counted area) (1 ∷ 2 ∷ 3 ∷ 4 ∷ [])

-- a COUNT line for each count above 0, by areas as they are listed
abbrev pub count_lines : PlainPlant → List Counted → List (List ℕ)
count_lines plant counted = lines_below (area_lines plant counted) (length plant.areas)

-- the answer to `list`
unfoldable pub list_text : System → List ℕ
list_text sys = with_end (state_lines sys ++ count_lines sys.plant (summary_of sys))

-- how many numbers a half of the list has lines for: those of the alarms, or of the areas
abbrev pub half_total : PlainPlant → Half → ℕ
half_total plant half.States = length plant.alarms
half_total plant half.Counts = length plant.areas

-- the lines that a half of the list has for a number
abbrev pub half_lines_of : System → Half → ℕ → List (List ℕ)
half_lines_of sys half.States = state_lines_of sys
half_lines_of sys half.Counts = area_lines sys.plant (summary_of sys)

-- the lines of a half of the list
abbrev pub half_lines : System → Half → List (List ℕ)
half_lines sys half = lines_below (half_lines_of sys half) (half_total sys.plant half)

-- ---- the journal

-- the line of a row, in a journal with this epoch
unfoldable pub named_line : ℕ → NamedRow → List ℕ
named_line epoch row = row_line (named_text epoch row)

-- a line for each row of the journal
abbrev pub journal_lines : PlainPlant → List Event → List (List ℕ)
journal_lines plant history = map (named_line plant.epoch) (journal_of plant history)

-- those lines, one after another
abbrev pub journal_body : PlainPlant → List Event → List ℕ
journal_body plant history = text_of (journal_lines plant history)

-- the answer to `journal`
unfoldable pub journal_text : PlainPlant → List Event → List ℕ
journal_text plant history = with_end (journal_lines plant history)

-- ---- so far

-- lines stand at the end of a text, and this is how many they are
pub record HasListed (old new : List ℕ) (count : ℕ) (lines : List (List ℕ)) : Type 0 where
  pub text_is : new ≡ old ++ text_of lines
  pub count_is : count ≡ length lines

-- the line of the journal's row of a number, from 1, stands at the end of a text
pub record HasRow (plant : PlainPlant) (history : List Event) (number : ℕ) (old new : List ℕ) : Type 0 where
  pub row : NamedRow
  pub row_is : slice_get (journal_of plant history) (number - 1) ≡ Some row
  pub text_is : new ≡ old ++ named_line plant.epoch row

-- of a text the front is written, and the rest is held
abbrev pub IsPassed : (w₀ w₁ : Option (List ℕ)) → (text held : List ℕ) → Type 0
IsPassed w₀ w₁ text held = (sent : List ℕ) × (text ≡ sent ++ held) × Appends w₀ w₁ sent

-- lines came after what was held; of both the front is written and the rest is held, and this is how many lines they are
pub record HasPassed (w₀ w₁ : Option (List ℕ)) (old new : List ℕ) (count : ℕ) (lines : List (List ℕ)) : Type 0 where
  pub passed : IsPassed w₀ w₁ (old ++ text_of lines) new
  pub count_is : count ≡ length lines
