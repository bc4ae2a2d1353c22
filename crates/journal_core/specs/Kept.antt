-- How a log keeps its rows: a word for each. Those that aren't the change of an alarm's code stand in a list apart.
use Rattle.std.specs.Prelude.{ℕ, ◌+◌, ◌-◌, ◌/◌, ◌%◌, ◌==◌, ◌≤◌, ◌<◌, nat_lt, if◌then◌else◌, List, [], ◌∷◌, length, map, get_or, Option, Some, None}
use Rattle.alarm_machine.specs.Codes.{PlainChange, change_between}
use Rattle.alarm_machine.specs.declared.states.Code.{Code}
use Rattle.alarm_machine.specs.declared.states.Code.TheVariants as code
use Rattle.alarm_machine.specs.declared.states.Verb.TheVariants as verb
use Rattle.journal_core.specs.declared.row.Entry.TheVariants as entry
use Rattle.journal_core.specs.declared.row.Row.{Row}
use Rattle.journal_core.specs.declared.log.ApartRow.{ApartRow}
use Rattle.journal_core.specs.declared.packing.KeptRow.{KeptRow}
use Rattle.journal_core.specs.declared.packing.KeptRow.TheVariants as kept
use Rattle.journal_core.specs.declared.packing.TheConstants.{CODES, PAIRS, ALARMS, FIRST_APART}
use Rattle.journal_core.specs.Rows.{IsLog}

-- the code of a number, from 0 for NORM; OOS from 8 on
abbrev pub code_at : ℕ → Code
code_at number =
    if number == 0 then code.Norm
    else if number == 1 then code.Unack
    else if number == 2 then code.Acked
    else if number == 3 then code.Rtnun
    else if number == 4 then code.Latun
    else if number == 5 then code.Latak
    else if number == 6 then code.Shelved
    else if number == 7 then code.Suppr
    else code.Oos

-- the change of a pair of codes: the code before is the quotient by 9, the code after the remainder
abbrev pub change_at : ℕ → Option PlainChange
change_at pair = change_between (code_at (pair / CODES)) (code_at (pair % CODES))

-- what a word below the first apart stands for, by the change of its last digit: alarm and moment are the digits before it. No log has a
-- word whose two codes are one
abbrev pub change_row : ℕ → Option PlainChange → KeptRow
change_row word None = kept.Apart word
change_row word (Some change) = kept.Alarm change (word / PAIRS % ALARMS) (word / PAIRS / ALARMS)

-- what a word stands for
abbrev pub unpacked : ℕ → KeptRow
unpacked word = if nat_lt word FIRST_APART then change_row word (change_at (word % PAIRS)) else kept.Apart (word - FIRST_APART)

-- what stands for the row of a place past the list's end; no row of a log has such a place
abbrev pub no_row : ApartRow
no_row = record { moment = 0; entry = entry.Order 0 verb.Ack None None }

-- a row that is kept apart, with its number
abbrev pub numbered : ℕ → ApartRow → Row
numbered number row = record { number = number; moment = row.moment; entry = row.entry }

-- the row of a number, by how it is kept
abbrev pub row_of : List ApartRow → ℕ → KeptRow → Row
row_of apart number (kept.Alarm change alarm moment) = record { number = number; moment = moment; entry = entry.Alarm alarm change }
row_of apart number (kept.Apart place) = numbered number (get_or apart place no_row)

-- rows that are kept, numbered on from n
abbrev pub rows_of : List ApartRow → ℕ → List KeptRow → List Row
rows_of apart n [] = []
rows_of apart n (row ∷ rows) = row_of apart (n + 1) row ∷ rows_of apart (n + 1) rows

-- the list apart is longer than the place of a row
abbrev pub HasPlace : ℕ → KeptRow → Type 0
HasPlace n (kept.Alarm change alarm moment) = Unit {0}
HasPlace n (kept.Apart place) = place < n

-- each row is found
abbrev pub HavePlaces : ℕ → List KeptRow → Type 0
HavePlaces n [] = Unit {0}
HavePlaces n (row ∷ rows) = HasPlace n row × HavePlaces n rows

-- the rows of a log, by a word for each
abbrev pub rows_in : List ApartRow → List ℕ → List Row
rows_in apart words = rows_of apart 0 (map unpacked words)

-- what holds of the lists of every log: they are the rows of a log, each row is found, and so many more rows find room in both lists
pub record IsKept (words : List ℕ) (apart : List ApartRow) (room word_memory apart_memory : ℕ) : Type 0 where
  pub log : IsLog (rows_in apart words)
  pub places : HavePlaces (length apart) (map unpacked words)
  pub room_for_rows : length words + room ≤ word_memory
  pub room_apart : length apart + room ≤ apart_memory
