-- The rows of a journal, and the row that is added for an entry.
use Rattle.std.specs.Prelude.{◌≡◌, ℕ, ◌+◌, ◌-◌, ◌≤◌, List, [], ◌∷◌, ◌++◌, length, slice_get, Some}
use Rattle.plant_types.specs.declared.values.Place.{Place}
use Rattle.plant_types.specs.declared.values.Trap.{Trap}
use Rattle.alarm_machine.specs.Codes.{PlainChange}
use Rattle.journal_core.specs.declared.row.Entry.{Entry}
use Rattle.journal_core.specs.declared.row.Entry.TheVariants as entry
use Rattle.journal_core.specs.declared.row.Row.{Row}

-- a log: its rows, and for how many more there is room without memory
pub record PlainLog : Type 0 where
  pub rows : List Row
  pub room : ℕ

-- a log after an entry of a moment: its row stands at the end with the next number, the first being 1
abbrev pub after_entry : ℕ → PlainLog → Entry → PlainLog
after_entry moment log entry = record {
  rows = log.rows ++ record { number = length log.rows + 1; moment = moment; entry = entry } ∷ [];
  room = log.room - 1;
}

-- a log after entries of one moment, one after the other
abbrev pub after_entries : ℕ → PlainLog → List Entry → PlainLog
after_entries moment log [] = log
after_entries moment log (entry ∷ entries) = after_entries moment (after_entry moment log entry) entries

-- the entries for a fault and for a change of an alarm's code
abbrev pub fault_entry : (Place × Trap) → Entry
fault_entry fault = entry.Fault fault.0 fault.1

abbrev pub change_entry : (ℕ × PlainChange) → Entry
change_entry change = entry.Alarm change.0 change.1

-- rows are numbered from 1
abbrev pub AreNumbered : List Row → Type 0
AreNumbered rows = (k : ℕ) (row : Row) → slice_get rows k ≡ Some row → row.number ≡ k + 1

-- the moment of the last row, 0 without rows
abbrev pub last_moment : List Row → ℕ
last_moment [] = 0
last_moment (row ∷ []) = row.moment
last_moment (row ∷ next ∷ rows) = last_moment (next ∷ rows)

-- no row has a moment before that of the row above it
abbrev pub AreInOrder : List Row → Type 0
AreInOrder [] = Unit {0}
AreInOrder (row ∷ []) = Unit {0}
AreInOrder (row ∷ next ∷ rows) = (row.moment ≤ next.moment) × AreInOrder (next ∷ rows)

-- what holds of the rows of every log
pub record IsLog (rows : List Row) : Type 0 where
  pub numbered : AreNumbered rows
  pub in_order : AreInOrder rows
